-- Demand 2 from call to call. Assumes nothing.
use Prim.Native.Nat.{ℕ, ◌*◌, ◌≤◌}
use mathlib.Core.Path.{◌≡◌, refl, sym, ap, ◌∙◌}
use mathlib.Core.Bool.{false}
use mathlib.Core.List.{List}
use native.Mathlib.Omega.{arith}
use lib.ListN.{length, take, replicate, length-replicate}
use Rattle.vocabulary.specs.Refusal.{due}
use Rattle.vocabulary.specs.declared.Refusal.TheVariants.{Malformed}
use Rattle.vocabulary.specs.Outcome.{Outcome, accepting}
use Rattle.vocabulary.proofs.Range.{clash}
use Rattle.vocabulary.proofs.Outcome.{accepted_does, accepted_none}
use Rattle.vocabulary.proofs.Refusals.{none_exactly}
use Rattle.hd153108.specs.Hd153108.{Chip, InRange}
use Rattle.sheet.specs.Sheet.{Line}
use Rattle.sheet.specs.Sheet.{Reading, good, bad, sheet_of, lines_of, chip_lines, text_of, pasted, write}
use Rattle.sheet.specs.Grammar.{IsSheet}
use Rattle.sheet.proofs.Grammar.{grammar}
use Rattle.sheet_written.specs.Writer.{Writable}
use Rattle.sheet_written.proofs.Round.{first_of, write_writable, write_round}
use Rattle.sheet_written.proofs.Values.{length_text}
use Rattle.calls.specs.Calls.{calls_of, call_bytes, call_refusals, sheet_to_calls}
use Rattle.calls.proofs.Stored.{length_bytes}
use Rattle.calls.proofs.Count.{sheet_calls_bound}
use Rattle.theorem_load.specs.Load.{Writing, writing, LoadsSheets}
use Rattle.theorem_load.specs.CallToCall.{calls_in, calls_written, calls_for, LoadsText, LoadsChip, CallToCall}
use Rattle.theorem_load.proofs.Load.{load}
use Rattle.theorem_load.proofs.Back.{returned}
use Rattle.theorem_load.proofs.Buffers.{chip_becomes_sheet, sheet_becomes_calls, calls_in_lem}

-- ---- an accepted step: the text is a good sheet, and what was written are its calls

good_by : (text out : List ℕ) (r : Reading) → sheet_of text ≡ r → (sheet_to_calls text out).refusal ≡ 0
    → sheet_of text ≡ good (lines_of r)
unfolding sheet_to_calls
good_by text out (good l) e f = e
good_by text out (bad n) e f =
    let none = none_exactly (call_refusals (bad n) out) (accepted_none _ n out _ (rw e at f)) in
    let well-formed : due (call_refusals (bad n) out) Malformed ≡ false = search in
    clash well-formed

pub accepted_good : (text out : List ℕ) → (sheet_to_calls text out).refusal ≡ 0
    → sheet_of text ≡ good (lines_of (sheet_of text))
accepted_good text out f = good_by text out (sheet_of text) refl f

module _ (text out : List ℕ) (l : List Line) (e : sheet_of text ≡ good l)
    (f : (sheet_to_calls text out).refusal ≡ 0) where
  pub step_does : sheet_to_calls text out ≡ accepting 0 (length (calls_of l)) (pasted out 0 (call_bytes (calls_of l)))
  unfolding sheet_to_calls
  step_does = rw e (accepted_does 0 out _ (accepted_none _ 0 out _ (rw e at f)))

  bytes_written_lem : take (2 * length (calls_of l)) (pasted out 0 (call_bytes (calls_of l))) ≡ call_bytes (calls_of l)
  bytes_written_lem = rw (sym (length_bytes (calls_of l))) (first_of out (call_bytes (calls_of l)))

  calls_written_lem : calls_written (sheet_to_calls text out) ≡ calls_of l
  calls_written_lem = ap calls_written step_does ∙ (ap calls_in bytes_written_lem ∙ calls_in_lem (calls_of l))

-- ---- with room enough: 2,134 bytes, and 786 calls of two bytes

with_room : (a : Chip) (out : List ℕ) → Writable a → 2134 ≤ length out → (write a out).refusal ≡ 0
with_room a out w h =
    let fits : length (text_of a) ≤ length out = omega (arith, length_text a w.overlays w.colours) in
    ap (λ (o : Outcome (List ℕ)). o.refusal) (chip_becomes_sheet a out w fits)

list_room : (text out : List ℕ) (l : List Line) → IsSheet text l → 2 * 786 ≤ length out
    → (sheet_to_calls text out).refusal ≡ 0
list_room text out l s h =
    let e = grammar.good_where text l s in
    let fits : length (call_bytes (calls_of l)) ≤ length out =
    omega (arith, length_bytes (calls_of l), sheet_calls_bound text l e) in
    ap (λ (o : Outcome (List ℕ)). o.refusal) (sheet_becomes_calls text out l e fits)

-- ---- what loads every sheet does so from call to call

module _ (w : Writing) (loads : LoadsSheets w) where
  loads_text : (text out : List ℕ) (c : Chip) → (sheet_to_calls text out).refusal ≡ 0 → InRange c
      → LoadsText w text out c
  loads_text text out c f g =
      let l = lines_of (sheet_of text) in
      let e = accepted_good text out f in
      let m = loads text l c e g in
      let is = calls_written_lem text out l e f in
      let sheet = grammar.good_only text l e in
      record { lines = l; is = sheet; accepted = rw is m.accepted; leaves = rw is m.leaves }

  loads_chip : (a b : Chip) (out list : List ℕ) → (write a out).refusal ≡ 0 → (calls_for a out list).refusal ≡ 0
      → InRange b → LoadsChip w a b out list
  loads_chip a b out list f h g =
      let e = write_round a out f in
      let m = loads _ (chip_lines a) b e g in
      let is = calls_written_lem _ list (chip_lines a) e h in
      record { accepted = rw is m.accepted; same = rw is (returned a b _ (write_writable a out f) m.leaves) }

  pub loads_calls : CallToCall w
  loads_calls = record {
    loads = loads_text;
    back = loads_chip;
    sheet = λ a out e. grammar.good_only _ (chip_lines a) (write_round a out e);
    written = with_room;
    listed = λ text out l s h. list_room text out l s (omega arith);
  }

-- and what does so from call to call loads every sheet
lines_of_good : {l m : List Line} → good l ≡ good m → l ≡ m
lines_of_good e = cc

pub calls_load : (w : Writing) → CallToCall w → LoadsSheets w
calls_load w m text lines c e g =
    let out : List ℕ = replicate 1572 0 in
    let sheet = grammar.good_only text lines e in
    let f = m.listed text out lines sheet (omega (arith, length-replicate {A = ℕ} 1572 0)) in
    let t = m.loads text out c f g in
    let same : t.lines ≡ lines = lines_of_good (sym (grammar.good_where text t.lines t.is) ∙ e) in
    let is = calls_written_lem text out lines e f in
    record { accepted = rw is at t.accepted; leaves = rw (same, is) at t.leaves }

-- Document 01, demand 2, from call to call.
pub call_to_call : CallToCall writing
call_to_call = loads_calls writing load
