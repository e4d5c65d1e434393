use mathlib.Core.Path.{sym}
use Rattle.std.proofs.lemmas.Result.{err_from_is_err_and}
use Rattle.sserial.specs.Table.{checked_at}
use Rattle.sserial.specs.Calls.{table_listed, call_listed, unpacked_to}
use Rattle.sserial.proofs.CheckedLaws.{accepted-checked}
use Rattle.sserial.proofs.CallLaws.{packable, called-laid, called-refused}
use Rattle.sserial.proofs.call.unpack.Goals as goal

pub returns-in_err-counts : goal.returns-in_err-counts
unfolding table_listed call_listed unpacked_to
returns-in_err-counts c =
    let p = err_from_is_err_and c.from_residual.result c.from_residual.ensures.1 in
    rw (p.1, p.2) (sym (called-refused _ _ _ _ _ _ _ c.in_err-counts.ensures))

pub unpack_fields-requires : goal.unpack_fields-requires
unfolding table_listed checked_at
unpack_fields-requires c = packable _ _ _ _ c.new-fields.ensures _ _ _ (accepted-checked _ _ _ c.in_ok-counts.ensures) c.counted_in.ensures

pub returns : goal.returns
unfolding table_listed checked_at unpacked_to
returns c = rw
    (called-laid _ _ _ _ c.new-fields.ensures _ _ (accepted-checked _ _ _ c.in_ok-counts.ensures).laid)
    c.unpack_fields.ensures
