use native.Mathlib.Omega.{arith}
use Rattle.showcheck_output.specs.Findings.{bad_packet_text}
use Rattle.showcheck_output.proofs.FindingLaws.{end-within, front_bytes_lem, behind-front}
use Rattle.showcheck_output.proofs.refused.put_bad_packet.Goals as goal

pub slice_bounds-put_refused-end : goal.slice_bounds-put_refused-end
slice_bounds-put_refused-end c = let w = end-within c.args.rest.now in
    omega (arith, c.frame_end-end.ensures)

pub slice_bounds-put_refused-count-2 : goal.slice_bounds-put_refused-count-2
slice_bounds-put_refused-count-2 c = let w = end-within c.args.rest.now in
    omega (arith, c.frame_end-end.ensures)

pub slice_bounds-put_refused-start-2 : goal.slice_bounds-put_refused-start-2
slice_bounds-put_refused-start-2 c = let w = end-within c.args.rest.now in
    omega (arith, c.frame_end-end.ensures)

pub returns : goal.returns
unfolding bad_packet_text
returns c = let s = c.args.rest.now in
    let e = c.frame_end-end.ensures in
    let front = front_bytes_lem s e c.least-start.ensures in
    let behind = behind-front s e in
    record {
      room_after = rw (front, behind) at c.put_refused.ensures.room_after;
      fits = rw (front, behind) at c.put_refused.ensures.fits;
    }
