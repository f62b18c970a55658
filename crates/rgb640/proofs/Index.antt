-- Which indexes lie in which space, and which port is which register. Assumes nothing.
use Prim.Native.Nat.{ℕ, zero, suc, ◌+◌, ◌≤◌, ◌<◌}
use mathlib.Core.Path.{◌≡◌, refl, sym, subst, ◌∙◌}
use mathlib.Core.Bool.{true}
use mathlib.Core.List.{List, [], ◌∷◌}
use native.Mathlib.Omega.{arith}
use borrow.Author.Tests.{le-leb, leb-true}
use Rattle.vocabulary.specs.Range.{within, meets}
use Rattle.vocabulary.proofs.Range.{holds_meets, meets_holds, clash}
use Rattle.vocabulary.proofs.Choice.{picks_first, picks_second, cases}
use Rattle.rgb640.specs.declared.State.{State}
use Rattle.rgb640.specs.Rgb640.{Space, update_control, palette_write, palette_read, spaces, nowhere}
use Rattle.rgb640.specs.Rgb640.{among, space_of, fetches_entry, is_against, not_served, register_at}

-- ---- Any table of spaces
abbrev pub Lies : ℕ → Space → Type 0
Lies i row = (row.first ≤ i) × (i < row.first + row.count)

abbrev pub Each : (Space → Type 0) → List Space → Type 0
Each P [] = Unit
Each P (row ∷ rows) = P row × Each P rows

-- what holds of each row that has the index, and of nowhere if none has it, holds of the index's space
pub among_holds : (P : Space → Type 0) (i : ℕ) (rows : List Space) → Each (λ (row : Space). Lies i row → P row) rows
    → (Each (λ (row : Space). Lies i row → ⊥) rows → P nowhere) → P (among rows i)
among_holds P i [] h out = out tt
among_holds P i (row ∷ rows) h out =
    cases (meets (within row.first row.count i))
    (λ e.
    let g = meets_holds _ e in
    subst P (sym (picks_first _ _ e)) (h.0 (leb-true _ _ g.0, g.1.0)))
    (λ e.
    let off : Lies i row → ⊥ = λ l. clash (sym (holds_meets _ (le-leb _ _ l.0, (l.1, tt))) ∙ e) in
    subst P (sym (picks_second _ _ e)) (among_holds P i rows h.1 (λ offs. out (off, offs))))

-- ---- The three spaces
module _ (i : ℕ) where
  pub space_holds : (P : Space → Type 0) → Each (λ (row : Space). Lies i row → P row) spaces
      → (Each (λ (row : Space). Lies i row → ⊥) spaces → P nowhere) → P (space_of i)
  unfolding space_of
  space_holds P h out = among_holds P i spaces h out

  pub space_update : i ≡ 0x000E → space_of i ≡ update_control
  unfolding update_control palette_write palette_read
  space_update e =
      space_holds (λ (row : Space). row ≡ update_control)
      (λ l. refl, (λ l. absurd (omega arith), (λ l. absurd (omega arith), tt)))
      (λ out. absurd (out.0 (omega arith)))

  pub space_write : 0x4000 ≤ i → i < 0x4400 → space_of i ≡ palette_write
  unfolding update_control palette_write palette_read
  space_write a b =
      space_holds (λ (row : Space). row ≡ palette_write)
      (λ l. absurd (omega arith), (λ l. refl, (λ l. absurd (omega arith), tt)))
      (λ out. absurd (out.1.0 (omega arith)))

  pub space_read : 0x8000 ≤ i → i < 0x8400 → space_of i ≡ palette_read
  unfolding update_control palette_write palette_read
  space_read a b =
      space_holds (λ (row : Space). row ≡ palette_read)
      (λ l. absurd (omega arith), (λ l. absurd (omega arith), (λ l. refl, tt)))
      (λ out. absurd (out.1.1.0 (omega arith)))

  -- in read space the entry is fetched, and outside it nothing
  pub fetches_entry_lem : 0x8000 ≤ i → i < 0x8400 → {n : State} (t : List ℕ) (s : State) → n ≡ fetches_entry t s
      → n ≡ (space_of i).on_index t s
  unfolding palette_read
  fetches_entry_lem a b t s e = rw (space_read a b) e

  pub fetches_nothing_lem : (0x8000 ≤ i → i < 0x8400 → ⊥) → (t : List ℕ) (s : State) → (space_of i).on_index t s ≡ s
  unfolding update_control palette_write palette_read nowhere
  fetches_nothing_lem off t s =
      space_holds (λ (row : Space). row.on_index t s ≡ s)
      (λ l. refl, (λ l. refl, (λ l. absurd (off l.0 l.1), tt)))
      (λ out. refl)

  -- what neither the register nor the direction's own space has is not served
  module _ (other : i ≡ 0x000E → ⊥) where
    pub unwritten : (0x4000 ≤ i → i < 0x4400 → ⊥) → is_against (space_of i).on_write ≡ true
    unfolding update_control palette_write palette_read nowhere
    unwritten off =
        space_holds (λ (row : Space). is_against row.on_write ≡ true)
        (λ l. absurd (other (omega arith)), (λ l. absurd (off l.0 l.1), (λ l. refl, tt)))
        (λ out. refl)

    pub unread : (0x8000 ≤ i → i < 0x8400 → ⊥) → is_against (space_of i).on_read ≡ true
    unfolding update_control palette_write palette_read nowhere
    unread off =
        space_holds (λ (row : Space). is_against row.on_read ≡ true)
        (λ l. absurd (other (omega arith)), (λ l. refl, (λ l. absurd (off l.0 l.1), tt)))
        (λ out. refl)

-- ---- The ports
pub no_register_lem : (port : ℕ) → (port ≡ 4 → ⊥) → (port ≡ 5 → ⊥) → (port ≡ 6 → ⊥) → register_at port ≡ not_served
unfolding register_at
no_register_lem zero f g h = refl
no_register_lem (suc zero) f g h = refl
no_register_lem (suc (suc zero)) f g h = refl
no_register_lem (suc (suc (suc zero))) f g h = refl
no_register_lem (suc (suc (suc (suc zero)))) f g h = absurd (f refl)
no_register_lem (suc (suc (suc (suc (suc zero))))) f g h = absurd (g refl)
no_register_lem (suc (suc (suc (suc (suc (suc zero)))))) f g h = absurd (h refl)
no_register_lem (suc (suc (suc (suc (suc (suc (suc port))))))) f g h = refl
