-- A text up to its first LF. Assumes nothing.
use Prim.Native.Nat.{ℕ, suc, ◌+◌, ◌≤◌, ◌<◌}
use mathlib.Core.Path.{◌≡◌, refl, sym, ap, ◌∙◌}
use mathlib.Core.Bool.{Bool, true, false}
use mathlib.Core.List.{List, [], ◌∷◌}
use native.Mathlib.Numerals.{add-one}
use native.Mathlib.Omega.{arith}
use lib.Dec.{eqb, ltb}
use lib.ListN.{length, get_or, take}
use lib.Seq.{take-suc}
use borrow.Author.Tests.{eqb-true, eqb-false, ltb-true, ltb-false, lt-ltb, le-ltb}
use Rattle.std.specs.List.{position, position_or_len}
use Rattle.std.specs.Option.{unwrap_or}
use Rattle.std.specs.Prelude.{cond}
use Rattle.std.proofs.lemmas.List.Recursion.{is_position_or_len}
use Rattle.vocabulary.specs.Choice.{pick}
use Rattle.vocabulary.proofs.Choice.{picks_first, picks_second, cases}
use Rattle.port_log.specs.declared.Line.{Line}
use Rattle.port_log.specs.Log.{line_of}
use Rattle.hold.specs.Hold.{Hold, hold, held, holding, holding_all, before, up_to, Within, held_of, Hears}
use Rattle.hold.proofs.Holds.{holding_more}

-- no byte held; and one more
pub holding_none : (h : Hold) → holding_all [] h ≡ h
unfolding holding_all
holding_none h = refl

pub holding_on : (t : List ℕ) (i : ℕ) (h : Hold) → i < length t
    → holding_all (take (i + 1) t) h ≡ holding (get_or t i 0) (holding_all (take i t) h)
unfolding holding_all
holding_on t i h g = rw (add-one, take-suc t i 0 g) (holding_more (take i t) (get_or t i 0 ∷ []) h)

before_none : before [] ≡ 0
unfolding before
before_none = refl

by_test : (x : Bool) (n : ℕ) → pick x 0 (suc n) ≡ cond x 0 (1 + n)
unfolding pick
by_test true n = refl
by_test false n = omega arith

before_some : (b : ℕ) (t : List ℕ) → before (b ∷ t) ≡ cond (eqb b 10) 0 (1 + before t)
unfolding before
before_some b t = by_test (eqb b 10) (before t)

pub before_inside : (t : List ℕ) → before t ≤ length t
unfolding before
before_inside [] = omega arith
before_inside (b ∷ t) =
    let h = before_inside t in
    cases (eqb b 10)
    (λ e. rw (picks_first 0 (suc (before t)) e) (omega arith))
    (λ e. rw (picks_second 0 (suc (before t)) e) (omega arith))

-- the place of the first LF, where there is one, and else the length
before_place : (t : List ℕ) → before t ≡ position_or_len (λ b. eqb b 10) t
before_place = is_position_or_len before (λ b. eqb b 10) before_none (λ b t. before_some b t)

pub before_is : (t : List ℕ) → unwrap_or (position (λ b. eqb b 10) t) (length t) ≡ before t
before_is t =
    let p = position_or_len (λ b. eqb b 10) t in
    rw (before_place t) (cases (ltb p (length t))
    (λ e. rw e refl)
    (λ e.
    let g = ltb-false p (length t) e in
    let h = before_inside t in
    let i = before_place t in
    rw e (omega arith)))

-- a first LF stands behind the bytes before it, and none among them
pub before_is_lf : (t : List ℕ) → before t < length t → get_or t (before t) 0 ≡ 10
unfolding before
before_is_lf [] h = absurd (let z : ⊥ = omega arith in z)
before_is_lf (b ∷ t) h =
    cases (eqb b 10)
    (λ e. rw (picks_first 0 (suc (before t)) e) (eqb-true b 10 e))
    (λ e.
    let p = picks_second 0 (suc (before t)) e in
    let g : suc (before t) < length (b ∷ t) = rw p at h in
    rw p (before_is_lf t (omega arith)))

pub before_within : (t : List ℕ) → Within (take (before t) t)
unfolding before
before_within [] = tt
before_within (b ∷ t) =
    cases (eqb b 10)
    (λ e. rw (picks_first 0 (suc (before t)) e) tt)
    (λ e. rw (picks_second 0 (suc (before t)) e) (eqb-false b 10 e, before_within t))

-- what a text is taken up to, where an LF is there and where none is
module _ (t : List ℕ) where
  pub up_to_lf : before t < length t → before t + 1 ≡ up_to t
  unfolding up_to
  up_to_lf h = sym (picks_first _ _ (lt-ltb (before t) (length t) h))

  pub up_to_all : length t ≤ before t → before t ≡ up_to t
  unfolding up_to
  up_to_all h = sym (picks_second _ _ (le-ltb (before t) (length t) h))

  -- no more is taken than is there
  pub up_to_inside : up_to t ≤ length t
  unfolding up_to
  up_to_inside =
      cases (ltb (before t) (length t))
      (λ e. let h = ltb-true (before t) (length t) e in rw (picks_first (before t + 1) (before t) e) (omega arith))
      (λ e. rw (picks_second (before t + 1) (before t) e) (before_inside t))

-- what was heard, where a line ended and where none did
module _ (t bytes : List ℕ) (h : Hold) {n len : ℕ} {line : Line} (is : n ≡ before t)
    (holds : hold bytes len ≡ held_of t h)
    (says : line ≡ line_of (take len bytes)) where
  pub hears_line : n < length t → Hears (record { line = line; ends = true; len = 0; taken = n + 1 }) t h bytes
  unfolding up_to pick
  hears_line g = record {
    taken = rw is (up_to_lf t (rw is at g));
    ends = rw (lt-ltb (before t) (length t) (rw is at g));
    says = says ∙ ap (λ (k : Hold). line_of (held k)) holds;
    holds = ap (λ (k : Hold). hold k.bytes 0) holds;
  }

  pub hears_part : length t ≤ n → Hears (record { line = line; ends = false; len = len; taken = n }) t h bytes
  unfolding pick
  hears_part g = record {
    taken = rw is (up_to_all t (rw is at g));
    ends = rw (le-ltb (before t) (length t) (rw is at g));
    says = says ∙ ap (λ (k : Hold). line_of (held k)) holds;
    holds = holds;
  }

-- what a scan of a text's bytes before its first LF goes by
pub ruleset scans = (before_is, before_inside, holding_none, holding_on)
