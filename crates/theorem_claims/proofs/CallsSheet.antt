-- The expander, the sheet writer and sheet-to-calls: each judged by its table, and each determined by its promise.
-- Assumes nothing.
use Prim.Native.Nat.{ℕ, zero, suc, ◌-◌}
use mathlib.Core.Path.{◌≡◌, refl, sym, ap, ◌∙◌}
use mathlib.Core.List.{List, [], ◌∷◌}
use lib.ListN.{get_or}
use Rattle.vocabulary.specs.Outcome.{Outcome}
use Rattle.vocabulary.specs.Reply.{decoded, telling as telling_of}
use Rattle.vocabulary.proofs.Reply.{decoded_once}
use Rattle.vocabulary.specs.Refusal.{number}
use Rattle.vocabulary.specs.declared.Refusal.{Refusal}
use Rattle.vocabulary.specs.declared.Refusal.TheVariants.{LentLength, OverFifteen, NoAccess, NoIndex, ReadMode}
use Rattle.vocabulary.specs.declared.Refusal.TheVariants.{StillWaiting, ShortBuffer, Malformed, OutOfRange}
use Rattle.vocabulary.proofs.Refusals.{number_positive}
use Rattle.expand.specs.Expand.{refusals, expansion, meaning}
use Rattle.hd153108.specs.Hd153108.{Chip}
use Rattle.std.specs.Prelude.{Result, Ok, Err}
use Rattle.sheet.specs.Sheet.{sheet_of, bad_line, write_refusals, write, Answer, outcome, Heard}
use Rattle.calls.specs.Calls.{call_refusals, sheet_to_calls}
use Rattle.vocabulary.specs.Judged.{Judged}
use Rattle.theorem_claims.specs.Determined.{Determined, Numbered, Fills, Tells}
use Rattle.vocabulary.proofs.Judged.{judged}
use Rattle.theorem_claims.proofs.Determined.{determined, number_determined}

-- ---- judged
pub expansion_judged : (w v : ℕ) → Judged (refusals w v) 0 tt (expansion w v)
unfolding expansion
expansion_judged w v = judged (refusals w v) 0 tt _ refl

pub write_judged : (a : Chip) (out : List ℕ) → Judged (write_refusals a out) 0 out (write a out)
unfolding write
write_judged a out = judged (write_refusals a out) 0 out _ refl

-- here a refusal tells the line; it is the bad line's number, 0 where the sheet is good
pub calls_judged : (text out : List ℕ)
    → Judged (call_refusals (sheet_of text) out) (bad_line (sheet_of text)) out (sheet_to_calls text out)
unfolding sheet_to_calls
calls_judged text out = judged (call_refusals (sheet_of text) out) (bad_line (sheet_of text)) out _ refl

-- ---- determined: the refusal that has a number, and what is made of it; 0 is no refusal's
refusal_for : ℕ → Refusal
refusal_for n =
    get_or
    (LentLength ∷ OverFifteen ∷ NoAccess ∷ NoIndex ∷ ReadMode ∷ StillWaiting ∷ ShortBuffer ∷ Malformed ∷ OutOfRange ∷ [])
    (n - 1) LentLength

made_by : {A : Type 0} → A → (Refusal → A) → ℕ → A
made_by done refused zero = done
made_by done refused (suc n) = refused (refusal_for (suc n))

refused_back : {A : Type 0} (done : A) (refused : Refusal → A) (r : Refusal)
    → made_by done refused (number r) ≡ refused r
unfolding made_by refusal_for
refused_back done refused LentLength = refl
refused_back done refused OverFifteen = refl
refused_back done refused NoAccess = refl
refused_back done refused NoIndex = refl
refused_back done refused ReadMode = refl
refused_back done refused StillWaiting = refl
refused_back done refused ShortBuffer = refl
refused_back done refused Malformed = refl
refused_back done refused OutOfRange = refl

-- ---- determined: an expander's answer, and the number that C gets
abbrev Expanded : Type 0
Expanded = Result ℕ Refusal

expanded_of : ℕ → ℕ → Expanded
expanded_of refusal value = made_by (Ok value) (λ r. Err r) refusal

expanded_back : (a : Expanded) → expanded_of (meaning a).refusal (meaning a).value ≡ a
unfolding expanded_of made_by
expanded_back (Ok t) = refl
expanded_back (Err r) = refused_back (Ok 0) (λ q. Err q) r

module _ (w v : ℕ) where
  pub expand_determined : Determined meaning (expansion w v)
  expand_determined =
      determined meaning (λ (o : Outcome Unit). expanded_of o.refusal o.value) expanded_back _

  pub c_expand_determined : Determined decoded (telling_of (expansion w v))
  c_expand_determined = number_determined _

-- ---- determined: an answer with the buffer, and the number that C gets with it

-- no answer refuses with the number 0
pub numbered : (a : Answer) → Numbered a
numbered (Ok count) = tt
numbered (Err e) = number_positive e.refusal

answer_of : ℕ → ℕ → ℕ → Answer
answer_of refusal count line = made_by (Ok count) (λ r. Err (record { refusal = r; line = line })) refusal

abbrev Saw : Type 0
Saw = Answer × List ℕ

saw_of : Outcome (List ℕ) → Saw
saw_of o = (answer_of o.refusal o.count o.line, o.left)

saw_back : (x : Saw) → saw_of (outcome x.0 x.1) ≡ x
unfolding saw_of answer_of made_by
saw_back (Ok count, out) = refl
saw_back (Err e, out) =
    rw (refused_back {A = Answer} (Ok 0) (λ r. Err (record { refusal = r; line = e.line })) e.refusal) refl

fills : (d : Outcome (List ℕ)) → Fills d
fills d = determined {A = Saw} (λ x. outcome x.0 x.1) saw_of saw_back d

both : {A B : Type 0} {a c : A} {b d : B} → a ≡ c → b ≡ d → ◌≡◌ {A = A × B} (a, b) (c, d)
both e f = cc

tells : (d : Outcome (List ℕ)) → Tells d
tells d a b ha hb e f =
    let same = e ∙ sym f in
    both (decoded_once a.0 b.0 (ap (λ (h : Heard). h.reply) same)) (ap (λ (h : Heard). h.buffer) same)

module _ (a : Chip) (out : List ℕ) where
  pub write_determined : Fills (write a out)
  write_determined = fills _

  pub c_write_determined : Tells (write a out)
  c_write_determined = tells _

module _ (text out : List ℕ) where
  pub calls_determined : Fills (sheet_to_calls text out)
  calls_determined = fills _

  pub c_calls_determined : Tells (sheet_to_calls text out)
  c_calls_determined = tells _
