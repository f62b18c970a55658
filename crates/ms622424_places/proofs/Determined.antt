-- HOW FAR THE PROMISE FIXES THE BYTES: two outcomes that it allows give the same reply, and what they leave differs at
-- most in places that no entry waits in; where they are refused it does not differ. Assumes nothing.
use Prim.Native.Nat.{ℕ, ◌+◌, ◌*◌, ◌/◌, ◌%◌}
use mathlib.Core.Path.{◌≡◌, refl, sym, ap, ◌∙◌}
use mathlib.Core.List.{List, [], ◌∷◌, map}
use native.Mathlib.Omega.{arith}
use lib.ListN.{length}
use Rattle.vocabulary.specs.Outcome.{Outcome}
use Rattle.ms622424.specs.declared.Port.{Port}
use Rattle.ms622424.specs.declared.Control.{Control}
use Rattle.ms622424.specs.declared.Ident.{Ident}
use Rattle.ms622424.specs.Ms622424.{Chip, Call, called}
use Rattle.ms622424_places.specs.declared.Fifo.{Fifo}
use Rattle.ms622424_places.specs.declared.State.{State}
use Rattle.ms622424_places.specs.Places.{packed, unpacked, entries_in, ringed, colours, Handed, view, seen, Does}
use Rattle.ms622424_places.specs.Places.{SameInUse}
use Rattle.ms622424_places.proofs.Places.{fifo, how_many}

-- packing loses nothing
packed_unpacked : (n : ℕ) → packed (unpacked n) ≡ n
packed_unpacked n =
    let g : n / 256 % 256 + 256 * (n / 65536) ≡ n / 256 = omega arith in
    let b : n / 65536 % 256 + 256 * (n / 16777216) ≡ n / 65536 = omega arith in
    omega arith

packed_entries : (l : List ℕ) → map packed (entries_in l) ≡ l
packed_entries [] = refl
packed_entries (n ∷ l) = let e = packed_unpacked n in let f = packed_entries l in cc

-- the waiting places, of the colours that they hold
waiting_are : (f : Fifo) (q : List ℕ) → ringed f.first f.waiting q ≡ map packed (colours f q)
unfolding colours
waiting_are f q = sym (packed_entries (ringed f.first f.waiting q))

-- equal parts
same_state : {p p' : Port} {d d' : Control} {i i' : Ident} {n n' w w' : ℕ} → p ≡ p' → d ≡ d' → i ≡ i' → n ≡ n' → w ≡ w'
    → ◌≡◌ {A = State} (record { port = p; control = d; ident = i; fifo = fifo n w })
    (record { port = p'; control = d'; ident = i'; fifo = fifo n' w' })
same_state a b c d e = cc

-- ONE CHIP is kept in one way, but for the places that no entry waits in
pub kept_once : (h g : Handed) → view h ≡ view g → SameInUse h g
kept_once h g e =
    let f = h.state.fifo in
    let j = g.state.fifo in
    let es = ap (λ (c : Chip). c.waiting) e in
    let n = ap (λ (c : Chip). c.lent.first) e in
    let w : f.waiting ≡ j.waiting = sym (how_many f h.queue) ∙ (ap length es ∙ how_many j g.queue) in
    let q = waiting_are f h.queue ∙ (ap (map packed) es ∙ sym (waiting_are j g.queue)) in
    record {
      state = same_state (ap (λ (c : Chip). c.port) e) (ap (λ (c : Chip). c.control) e)
          (ap (λ (c : Chip). c.ident) e) n w;
      map = ap (λ (c : Chip). c.map) e;
      places = ap (λ (c : Chip). c.lent.places) e;
      waiting = q ∙ rw (n, w) refl;
    }

module _ (k : Call) (h : Handed) (o p : Outcome Handed) (a : Does h o (called k)) (b : Does h p (called k)) where
  same : seen o ≡ seen p
  same = a.chip ∙ sym b.chip

  pub determined :
      (o.refusal ≡ p.refusal) × (o.value ≡ p.value) × (o.count ≡ p.count) × (o.line ≡ p.line)
      × SameInUse o.left p.left
  determined = (
    ap (λ (x : Outcome Chip). x.refusal) same,
    ap (λ (x : Outcome Chip). x.value) same,
    ap (λ (x : Outcome Chip). x.count) same,
    ap (λ (x : Outcome Chip). x.line) same,
    kept_once o.left p.left (ap (λ (x : Outcome Chip). x.left) same),
  )

  pub refused_same : ¬ (o.refusal ≡ 0) → o.left ≡ p.left
  refused_same z = a.keeps z ∙ sym (b.keeps (λ y. z (ap (λ (x : Outcome Chip). x.refusal) same ∙ y)))
