-- The rows' own lengths and ranges are those that refusals 1 and 9 ask. Assumes nothing.
use mathlib.Core.Path.{◌≡◌, refl}
use mathlib.Core.Bool.{true}
use mathlib.Core.List.{List, [], ◌∷◌}
use native.Mathlib.Omega.{arith}
use borrow.Author.Tests.{lt-ltb, ltb-true}
use Rattle.vocabulary.specs.Every.{every}
use Rattle.vocabulary.specs.Range.{Holds}
use Rattle.vocabulary.proofs.Range.{both, pair}
use Rattle.ms622424.specs.declared.Ident.{Ident}
use Rattle.ms622424.specs.Ms622424.{Chip, Entry, InRange, is_in_map, lengths, ident_ranges, ranges}
use Rattle.ms622424.proofs.InRange.{in_range_lem}
use Rattle.theorem_scope_b.specs.Scope.{Sizes, IdentRanges, InMap, Ranges, Good}

in_map_test : (es : List Entry) → InMap es → every is_in_map es ≡ true
unfolding every
in_map_test [] h = refl
in_map_test (e ∷ es) h = pair (lt-ltb e.address 8192 h.0) (in_map_test es h.1)

test_in_map : (es : List Entry) → every is_in_map es ≡ true → InMap es
unfolding every
test_in_map [] h = tt
test_in_map (e ∷ es) h =
    let t = both (is_in_map e) (every is_in_map es) h in
    (ltb-true e.address 8192 t.0, test_in_map es t.1)

pub sizes_hold : (c : Chip) → Sizes c → Holds (lengths c)
sizes_hold c h = search

pub hold_sizes : (c : Chip) → Holds (lengths c) → Sizes c
hold_sizes c h = search

pub ident_holds : (i : Ident) → IdentRanges i → Holds (ident_ranges i)
ident_holds i h = search

pub holds_ident : (i : Ident) → Holds (ident_ranges i) → IdentRanges i
holds_ident i h = search

pub ranges_hold : (c : Chip) → Ranges c → Holds (ranges c)
ranges_hold c h =
    let i = h.ident in
    let m = in_map_test c.waiting h.in_map in
    search arith

pub hold_ranges : (c : Chip) → Holds (ranges c) → Ranges c
hold_ranges c h =
    let (_, (_, (_, (_, (_, (_, (revision, (board, (first, (few, (inside, _))))))))))) = h in
    let m = test_in_map c.waiting inside in
    let i : IdentRanges c.ident = search in
    search arith

pub good_in_range : (c : Chip) → Good c → InRange c
good_in_range c g = in_range_lem c (sizes_hold c g.sizes) (ranges_hold c g.ranges)
