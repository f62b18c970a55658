-- What the sheet's two calls count and which line they tell. Assumes nothing.
use Prim.Native.Nat.{ℕ, zero, suc}
use mathlib.Core.Path.{◌≡◌, refl, sym, ap, ◌∙◌}
use mathlib.Core.List.{List, ◌++◌}
use native.Mathlib.Omega.{arith}
use lib.ListN.{length}
use Rattle.vocabulary.specs.Choice.{pick}
use Rattle.vocabulary.specs.Refusal.{refusal_of}
use Rattle.vocabulary.specs.Outcome.{Outcome, answered_at}
use Rattle.vocabulary.proofs.Outcome.{accepted_does, accepted_none}
use Rattle.hd153108.specs.Hd153108.{Chip}
use Rattle.sheet.specs.Sheet.{Line}
use Rattle.sheet.specs.Sheet.{key_at, front, line_text, values, text_from, good, sheet_of, write}
use Rattle.calls.specs.Calls.{Call, register_calls, calls_of, call_refusals, sheet_to_calls}
use Rattle.theorem_load.proofs.Grammar.{Registers, good_lines}
use Rattle.theorem_load.proofs.CallToCall.{accepted_good, step_does}
use Rattle.theorem_claims.specs.Determined.{Counts}

-- the writer's text has bytes
pub text_counts : (a : Chip) (out : List ℕ) → Counts (write a out)
unfolding write text_from values line_text key_at front pick
text_counts a out e z =
    let n = ap (λ (o : Outcome (List ℕ)). o.count) (accepted_does 0 out _ (accepted_none _ 0 out _ e)) in
    let none = sym n ∙ z in
    omega (arith, none)

-- a good sheet has calls, for its registers
register_counts : (l : List Line) (ks : List Call) → Registers l → length (register_calls 4 l ++ ks) ≡ 0 → ⊥
unfolding register_calls
register_counts l ks r z = let e = rw r.lines at z in omega (arith, e)

pub calls_count : (text out : List ℕ) → Counts (sheet_to_calls text out)
unfolding calls_of
calls_count text out f z =
    let e = accepted_good text out f in
    let n = ap (λ (o : Outcome (List ℕ)). o.count) (step_does text out _ e f) in
    register_counts _ _ (good_lines text _ e).registers (sym n ∙ z)

-- a line is told for a malformed sheet alone (`malformed_eight` of calls: which one); a good sheet's refusal tells none
good_line : (n : ℕ) (out : List ℕ) (done : Outcome (List ℕ)) → done.line ≡ 0 → (answered_at n 0 out done).line ≡ 0
unfolding answered_at
good_line zero out done e = e
good_line (suc n) out done e = refl

pub good_tells_no_line : (text out : List ℕ) (l : List Line) → sheet_of text ≡ good l
    → (sheet_to_calls text out).line ≡ 0
unfolding sheet_to_calls
good_tells_no_line text out l e = rw e (good_line (refusal_of (call_refusals (good l) out)) out _ refl)
