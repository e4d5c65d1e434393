use mathlib.Core.Path.{refl}
use Rattle.capture.specs.Datagram.{data_of}
use Rattle.capture.specs.Inside.{part_at, part_of, number_part}
use Rattle.capture.proofs.write.put.Goals as goal

pub returns-then-not-write : goal.returns-then-not-write
unfolding part_of number_part
returns-then-not-write c = rw c.if-not-write.true (record { out_after = refl; numbers_after = refl })

pub returns-in-Other : goal.returns-in-Other
unfolding part_of number_part
returns-in-Other c = rw (c.if-not-write.false, c.in-Other.is) (record { out_after = refl; numbers_after = refl })

pub returns-in-Request : goal.returns-in-Request
unfolding data_of part_at part_of number_part
returns-in-Request c =
    rw (c.if-not-write.false, c.in-Request.is) (record { out_after = c.put_request.ensures; numbers_after = c.put_number.ensures })

pub returns-in-Reply : goal.returns-in-Reply
unfolding data_of part_at part_of number_part
returns-in-Reply c =
    rw (c.if-not-write.false, c.in-Reply.is) (record { out_after = c.put_framed.ensures; numbers_after = refl })
