-- Either way: what a call asks of a chip holds, or not. Assumes nothing.
use Rattle.vocabulary.proofs.Cases.{equals, bounds}
use Rattle.ms622424.specs.Ms622424.{Chip, lengths, ranges, ident_ranges, Call, writes, reads, blanks, pixels, signals}
use Rattle.ms622424.specs.Ms622424.{resets, looks}
use Rattle.theorem_scope_b.specs.Scope.{Lends, Asks}
use Rattle.theorem_scope_b.proofs.Good.{sizes_hold, hold_sizes, ident_holds, holds_ident, ranges_hold}
use Rattle.theorem_scope_b.proofs.Good.{hold_ranges}

module _ {P : Type 0} where
  pub lends : (k : Call) (c : Chip) → (Lends k c → P) → (¬ Lends k c → P) → P
  lends (writes select byte) c = bounds (lengths c) (hold_sizes c) (sizes_hold c)
  lends (reads select) c = bounds (lengths c) (hold_sizes c) (sizes_hold c)
  lends (blanks slots) c = bounds (lengths c) (hold_sizes c) (sizes_hold c)
  lends (pixels mode word) c = bounds (lengths c) (hold_sizes c) (sizes_hold c)
  lends (signals s) c = equals c.lent.places 64
  lends resets c = equals c.lent.places 64
  lends (looks place) c = bounds (lengths c) (hold_sizes c) (sizes_hold c)

  pub asks : (k : Call) (c : Chip) → (Asks k c → P) → (¬ Asks k c → P) → P
  asks (writes select byte) c = bounds (ranges c) (hold_ranges c) (ranges_hold c)
  asks (reads select) c = bounds (ranges c) (hold_ranges c) (ranges_hold c)
  asks (blanks slots) c = bounds (ranges c) (hold_ranges c) (ranges_hold c)
  asks (pixels mode word) c = bounds (ranges c) (hold_ranges c) (ranges_hold c)
  asks (signals s) c = bounds (ranges c) (hold_ranges c) (ranges_hold c)
  asks resets c = bounds (ident_ranges c.ident) (holds_ident c.ident) (ident_holds c.ident)
  asks (looks place) c = bounds (ranges c) (hold_ranges c) (ranges_hold c)
