-- How a byte for the palette ends, by the counter, as the code knows it. Assumes nothing.
use Prim.Native.Nat.{ℕ, ◌+◌, ◌%◌}
use mathlib.Core.Path.{◌≡◌, refl, ap}
use native.Mathlib.Omega.{arith}
use Rattle.vocabulary.specs.Component.{red, green}
use Rattle.ms622424.specs.Ms622424.{Chip, selected, stepped, port, with_port, taken, complete, completed}
use Rattle.ms622424.proofs.Access.{is_red, is_green, is_blue}

module _ (c : Chip) (byte : ℕ) where
  pub takes_red : c.port.counter ≡ 0 → taken red byte c ≡ taken (selected c.port) byte c
  takes_red e = rw (is_red e) refl

  pub takes_green : c.port.counter ≡ 1 → taken green byte c ≡ taken (selected c.port) byte c
  takes_green e = rw (is_green e) refl

  pub takes_blue : (c.port.counter ≡ 0 → ⊥) → (c.port.counter ≡ 1 → ⊥) → {d : Chip}
      → d ≡ complete (completed c.port byte) c
      → with_port (port ((c.port.address % 8192 + 1) % 8192) 0 c.port.red c.port.green) d
      ≡ taken (selected c.port) byte c
  unfolding taken stepped
  takes_blue e f {d} g =
      let p = c.port in
      let next : (p.address % 8192 + 1) % 8192 ≡ (p.address + 1) % 8192 = omega arith in
      rw (is_blue p.counter e f, next) (ap (with_port (port ((p.address + 1) % 8192) 0 p.red p.green)) g)
