-- Laws of looks, for any chip: what is found at a place, and which way a look goes. Assumes nothing.
use Prim.Native.Nat.{ℕ, ◌+◌, ◌-◌, ◌<◌, ◌≤◌}
use mathlib.Core.Path.{◌≡◌, refl, sym, ap, ◌∙◌}
use mathlib.Core.Bool.{Bool, true, false}
use mathlib.Core.List.{List, [], ◌∷◌, ◌++◌}
use native.Mathlib.Omega.{arith}
use borrow.Author.Tests.{le-leb, leb-true}
use lib.Dec.{leb}
use lib.ListN.{length, get_or}
use Rattle.vocabulary.specs.Every.{every}
use Rattle.vocabulary.specs.Refusal.{refusal_of, standing}
use Rattle.vocabulary.specs.declared.Refusal.TheVariants.{LentLength, OutOfRange, NoAccess}
use Rattle.vocabulary.specs.Outcome.{Outcome, accepting, refusing, answered}
use Rattle.vocabulary.specs.declared.Looked.{Looked}
use Rattle.vocabulary.specs.Look.{Block, Found, there, nowhere, found, look_refusals, looked, looking, unseen}
use Rattle.vocabulary.proofs.Choice.{picks_first, picks_second}
use Rattle.vocabulary.proofs.Range.{holds_meets, not_meets, both}
use Rattle.vocabulary.proofs.Call.{tried_first, stops, goes_on}

-- ---- What is found at a place

-- rows that end before a place, as a test; and rows that have not a place
unfoldable pub ends : List Block → ℕ → Bool
ends rows n = every (λ (b : Block). leb (b.from + length b.numbers) n) rows

abbrev pub Beside : ℕ → List Block → Type 0
Beside place [] = Unit
Beside place (b ∷ bs) = (b.from ≤ place → place < b.from + length b.numbers → ⊥) × Beside place bs

found_in : (b : Block) (bs : List Block) (place i : ℕ) → place ≡ b.from + i → i < length b.numbers
    → found (b ∷ bs) place ≡ there (get_or b.numbers i 0)
unfolding found
found_in b bs place i e h =
    let low = le-leb b.from place (omega arith) in
    let same : place - b.from ≡ i = omega arith in
    picks_first _ _ (holds_meets _ (low, (omega arith, tt))) ∙ ap (λ (j : ℕ). there (get_or b.numbers j 0)) same

found_beside : (b : Block) (bs : List Block) (place : ℕ)
    → (b.from ≤ place → place < b.from + length b.numbers → ⊥) → found (b ∷ bs) place ≡ found bs place
unfolding found
found_beside b bs place h = picks_second _ _ (not_meets _ (λ g. h (leb-true _ _ g.0) g.1.0))

-- rows that end before the place are passed
found_past : (rows bs : List Block) (n place : ℕ) → ends rows n ≡ true → n ≤ place
    → found (rows ++ bs) place ≡ found bs place
unfolding ends every
found_past [] bs n place e h = refl
found_past (b ∷ rows) bs n place e h =
    let (first, rest) = both (leb (b.from + length b.numbers) n) _ e in
    let past = leb-true (b.from + length b.numbers) n first in
    found_beside b (rows ++ bs) place (λ l u. omega arith) ∙ found_past rows bs n place rest h

-- and rows that have it not
found_behind : (more bs : List Block) (place : ℕ) → Beside place more → found (more ++ bs) place ≡ found bs place
found_behind [] bs place h = refl
found_behind (b ∷ more) bs place h = found_beside b (more ++ bs) place h.0 ∙ found_behind more bs place h.1

found_none : (bs : List Block) (place : ℕ) → Beside place bs → found bs place ≡ nowhere
unfolding found
found_none [] place h = refl
found_none (b ∷ bs) place h = found_beside b bs place h.0 ∙ found_none bs place h.1

-- behind rows that end before it, and more that have it not: in the next row, or in none
module _ (rows more : List Block) (n place : ℕ) (past : ends rows n ≡ true) (h : n ≤ place) (out : Beside place more)
  where
    pub found_here : (b : Block) (bs : List Block) (i : ℕ) → place ≡ b.from + i → i < length b.numbers
        → found (rows ++ (more ++ (b ∷ bs))) place ≡ there (get_or b.numbers i 0)
    found_here b bs i e l =
        found_past rows (more ++ (b ∷ bs)) n place past h
        ∙ (found_behind more (b ∷ bs) place out ∙ found_in b bs place i e l)

    pub found_nowhere : found (rows ++ more) place ≡ nowhere
    found_nowhere = found_past rows more n place past h ∙ found_none more place out

-- ---- Which way a look goes

-- lengths and state right: the number at a place that is there, else refusal 3
module _ {C : Type 0} {short outside : Bool} (c : C) (whole : short ≡ false) (inside : outside ≡ false) where
  pub look_tells : {f : Found} (v : ℕ) → f ≡ there v
      → answered (refusal_of (look_refusals short outside f)) c (looked f c) ≡ accepting v 0 c
  look_tells v e = rw e (sym (goes_on (look_refusals short outside (there v)) 0 c _ (whole, (inside, (refl, tt)))))

  pub look_misses : {f : Found} → f ≡ nowhere
      → answered (refusal_of (look_refusals short outside f)) c (looked f c) ≡ refusing 3 0 c
  look_misses e =
      rw e
      (sym (stops (look_refusals short outside nowhere) 0 c _ (LentLength ∷ OutOfRange ∷ []) NoAccess 2 _ refl refl
      (whole, (inside, tt)) refl))

-- as the code knows it: refused by what every call tries first
pub look_stops : {C : Type 0} (short outside : Bool) (f : Found) (c : C) {n : ℕ} (a : Looked)
    → n ≡ refusal_of (standing short outside) → (n ≡ 0 → ⊥) → a ≡ unseen n
    → looking a c ≡ answered (refusal_of (look_refusals short outside f)) c (looked f c)
look_stops short outside f c a e h g =
    ap (λ (x : Looked). looking x c) g
    ∙ tried_first (look_refusals short outside f) 0 c (looked f c) short outside _ refl (λ t. t) e h

-- an answer that is another's tells what the other tells
pub looked_as : {C : Type 0} {c : C} {o : Outcome C} (a : Looked) {b : Looked} → a ≡ b → o ≡ looking b c
    → looking a c ≡ o
looked_as {c = c} a e f = ap (λ (x : Looked). looking x c) e ∙ sym f
