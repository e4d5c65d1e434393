use borrow.Author.Rules.{rules}
use mathlib.Core.Path.{refl, sym}
use Rattle.std.proofs.lemmas.Result.{err_from_is_err_and}
use Rattle.packet.proofs.SliceLaws.{tail-whole}
use Rattle.capture.specs.Capture.{capture_listed}
use Rattle.capture.proofs.WrittenLaws.{promised}
use Rattle.capture.proofs.CaptureLaws.{bad-file, header-there, left-frame, left-small, left-few, left-ready, left-all}
use Rattle.capture.proofs.read.Goals as goal

-- a lemma's facts, as the clauses have names
named2 : {A B R : Type 0} → (A → B → R) → A × B → R
named2 f h = f h.0 h.1

pub returns-in_default : goal.returns-in_default
unfolding capture_listed
returns-in_default c =
    rw c.at.ensures (named2 (λ h0 h1. record { captured = h0; same_recording = h1 }) (promised _ _ _ _ (sym (bad-file _ _ _ _ refl (rw c.in_default.is at c.file_of.ensures)))))

pub slice_bounds-walk-count : goal.slice_bounds-walk-count
slice_bounds-walk-count c = header-there _ _ c.in-Some.ensures refl

pub slice_bounds-walk-start : goal.slice_bounds-walk-start
slice_bounds-walk-start c = let h = header-there _ _ c.in-Some.ensures refl in search rules

pub returns-in_err-w : goal.returns-in_err-w
unfolding capture_listed
returns-in_err-w c =
    let p = err_from_is_err_and c.from_residual.result c.from_residual.ensures.1 in
    rw (p.1, p.2) (named2 (λ h0 h1. record { captured = h0; same_recording = h1 }) (promised _ _ _ _
    (left-frame c.args.capture.now c.args.out.now c.args.frames.now _ c.in-Some.ensures refl _ (tail-whole 24 c.args.capture.now) _ _ _ (c.in_err-w.ensures.value, (c.walk.ensures.out_after, c.walk.ensures.numbers_after)) _ _ refl)))

pub returns-then-out-w : goal.returns-then-out-w
unfolding capture_listed
returns-then-out-w c =
    rw c.at-then-out-w.ensures (named2 (λ h0 h1. record { captured = h0; same_recording = h1 }) (promised _ _ _ _
    (left-small c.args.capture.now c.args.out.now c.args.frames.now _ c.in-Some.ensures refl _ (tail-whole 24 c.args.capture.now) _ _ _ (c.in_ok-w.ensures.value, (c.walk.ensures.out_after, c.walk.ensures.numbers_after)) _ _ refl c.if-out-w.true)))

pub returns-then-frames-w : goal.returns-then-frames-w
unfolding capture_listed
returns-then-frames-w c =
    rw c.at-then-frames-w.ensures (named2 (λ h0 h1. record { captured = h0; same_recording = h1 }) (promised _ _ _ _
    (left-few c.args.capture.now c.args.out.now c.args.frames.now _ c.in-Some.ensures refl _ (tail-whole 24 c.args.capture.now) _ _ _ (c.in_ok-w.ensures.value, (c.walk.ensures.out_after, c.walk.ensures.numbers_after)) _ _ refl c.if-out-w.false c.if-frames-w.true)))

pub slice_bounds-walk-count-2 : goal.slice_bounds-walk-count-2
slice_bounds-walk-count-2 c = header-there _ _ c.in-Some.ensures refl

pub slice_bounds-walk-start-2 : goal.slice_bounds-walk-start-2
slice_bounds-walk-start-2 c = let h = header-there _ _ c.in-Some.ensures refl in search rules

pub walk-requires-2 : goal.walk-requires-2
unfolding capture_listed
walk-requires-2 c = λ e. left-ready c.args.capture.now c.args.out.now c.args.frames.now _ c.in-Some.ensures refl _ (tail-whole 24 c.args.capture.now) _ _ _ (c.in_ok-w.ensures.value, (c.walk.ensures.out_after, c.walk.ensures.numbers_after)) _ _ refl c.if-out-w.false c.if-frames-w.false

pub returns : goal.returns
unfolding capture_listed
returns c = named2 (λ h0 h1. record { captured = h0; same_recording = h1 }) (promised _ _ _ _
    (left-all c.args.capture.now c.args.out.now c.args.frames.now _ c.in-Some.ensures refl _ (tail-whole 24 c.args.capture.now) _ _ _ (c.in_ok-w.ensures.value, (c.walk.ensures.out_after, c.walk.ensures.numbers_after)) _ _ refl c.if-out-w.false c.if-frames-w.false _
    c.walk-2.ensures.value _ _
    c.walk-2.ensures.out_after
    c.walk-2.ensures.numbers_after))
