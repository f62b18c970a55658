-- Chip C's looks agree with its reads. Assumes nothing.
use Prim.Native.Nat.{ℕ, zero, suc, ◌+◌, ◌*◌, ◌/◌, ◌≤◌, ◌<◌}
use mathlib.Core.Path.{◌≡◌, refl, sym, ap, ◌∙◌}
use native.Mathlib.Omega.{arith}
use Rattle.vocabulary.specs.Outcome.{Outcome}
use Rattle.vocabulary.proofs.Outcome.{accepts_as}
use Rattle.rgb640.specs.Rgb640.{Chip, InRange, Space, update_control, palette_read, palette_told, transfer_at}
use Rattle.rgb640.specs.Rgb640.{three_bytes, register_at, told, looks, called}
use Rattle.rgb640.proofs.Access.{read_index, read_data}
use Rattle.rgb640.proofs.Index.{space_update, space_read}
use Rattle.rgb640.proofs.Look.{look_state}
use Rattle.theorem_looks.specs.Agrees.{read_c, AgreesC}

valued : {o p : Outcome Chip} → o ≡ p → p.value ≡ o.value
valued e = ap (λ (x : Outcome Chip). x.value) (sym e)

module _ (c : Chip) (g : InRange c) where
  index_is : 256 * read_c c 5 + read_c c 4 ≡ c.state.index
  unfolding register_at told
  index_is =
      let low = valued (read_index c g 4 refl refl) in
      let high = valued (read_index c g 5 refl refl) in
      omega (arith, low, high)

  update_is : c.state.index ≡ 0x000E → read_c c 6 ≡ c.state.update
  unfolding update_control
  update_is e = valued (read_data c g (ap (λ (row : Space). row.on_read) (space_update _ e)))

  byte_is : 0x8000 ≤ c.state.index → c.state.index < 0x8400
      → read_c c 6 ≡ (transfer_at three_bytes c.state.place).tells c.state.fetched
  unfolding palette_read palette_told
  byte_is l u = valued (read_data c g (ap (λ (row : Space). row.on_read) (space_read _ l u)))

  -- the fetched entry's number at each place in the order
  fetched_at : (p : ℕ) → p < 3
      → (called (looks (0x4 + p)) c).value / 4 ≡ (transfer_at three_bytes p).tells c.state.fetched
  unfolding transfer_at
  fetched_at zero h = ap (λ (o : Outcome Chip). o.value / 4) (look_state c g).4
  fetched_at (suc zero) h = ap (λ (o : Outcome Chip). o.value / 4) (look_state c g).5
  fetched_at (suc (suc zero)) h = ap (λ (o : Outcome Chip). o.value / 4) (look_state c g).6
  fetched_at (suc (suc (suc p))) h = absurd (let z : ⊥ = omega arith in z)

  pub agrees_c : AgreesC c
  agrees_c =
      let (index, _, _, _, _, _, _, update) = look_state c g in
      record {
        index = accepts_as index index_is;
        update = λ e. accepts_as update (update_is e);
        fetched = λ l u. fetched_at c.state.place g.place_low ∙ sym (byte_is l u);
      }
