-- Which refusal a table gives, as facts; and demand 1 said once, of any call: its table of refusals, the line that it
-- tells, all as given, and its outcome.
use Rattle.std.specs.Prelude.{ℕ, suc, ◌≡◌, Bool, true, false, List, [], ◌∷◌, ◌++◌}
use Rattle.vocabulary.specs.Refusal.{number, Row, ◌when◌, due, order}
use Rattle.vocabulary.specs.declared.Refusal.{Refusal}
use Rattle.vocabulary.specs.Outcome.{Outcome, refusing}

-- none of these is due
abbrev pub None : (Refusal → Bool) → List Refusal → Type 0
None d [] = Unit
None d (r ∷ rs) = (d r ≡ false) × None d rs

-- no condition of a table holds
abbrev pub Clear : List Row → Type 0
Clear [] = Unit
Clear ((r when b) ∷ rows) = (b ≡ false) × Clear rows

-- in a list of refusals the first that is due, and its number
pub record First (d : Refusal → Bool) (rs : List Refusal) (n : ℕ) : Type 0 where
  pub before : List Refusal
  pub refusal : Refusal
  pub after : List Refusal
  pub split : before ++ (refusal ∷ after) ≡ rs
  pub none : None d before
  pub is_due : d refusal ≡ true
  pub numbered : number refusal ≡ n

-- `First (due rows) order n`: in the order 1, 9, 3, 4, 5, 6, 2, 8, 7 the first refusal whose condition holds has the
-- number n. `None (due rows) order`: no condition holds.
pub record Judged {C : Type 0} (rows : List Row) (line : ℕ) (given : C) (o : Outcome C) : Type 0 where
  -- a refusal that is due is given: all as given, every value and count 0
  pub due_refuses : (n : ℕ) → First (due rows) order n → o ≡ refusing n line given
  -- where none is due the call is accepted
  pub clear_accepts : None (due rows) order → o.refusal ≡ 0
  -- and a refusal that is given is due; an accepted call had none
  pub refused_due : (n : ℕ) → o.refusal ≡ suc n → First (due rows) order (suc n)
  pub accepted_clear : o.refusal ≡ 0 → None (due rows) order
