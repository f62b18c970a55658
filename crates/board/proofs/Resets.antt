-- The start: a reset of A or C leaves the same whatever its state was before, and B's is accepted. Assumes nothing.
use Prim.Native.Nat.{ℕ}
use mathlib.Core.Path.{◌≡◌, sym, ap}
use mathlib.Core.List.{List, []}
use native.Mathlib.Omega.{arith}
use lib.ListN.{length}
use Rattle.vocabulary.specs.Refusal.{refusal_of}
use Rattle.vocabulary.specs.Outcome.{Outcome, answered_at}
use Rattle.vocabulary.specs.Face.{called_by}
use Rattle.hd153108.specs.Hd153108 as A
use Rattle.hd153108.specs.declared.State as AS
use Rattle.hd153108.specs.declared.Answer as AA
use Rattle.ms622424.specs.Ms622424 as B
use Rattle.ms622424.proofs.Reset.{reset_does}
use Rattle.ms622424_places.specs.Places.{handed, view, outcome, Does}
use Rattle.ms622424_places.specs.declared.State as BS
use Rattle.ms622424_places.specs.declared.Answer as BA
use Rattle.rgb640.specs.Rgb640 as C
use Rattle.rgb640.specs.declared.State as CS
use Rattle.rgb640.specs.declared.Answer as CA
use Rattle.port_log.specs.declared.Chip.TheVariants.{ChipA}
use Rattle.board.specs.Board.{whole, revised, started}

-- B's is accepted, and keeps revision 3 and board number 5
pub b_started : (a : A.Chip) (queue map : List ℕ) (c : C.Chip) (page : List ℕ) → length queue ≡ 64
    → (started a queue map c page).b ≡ B.fresh (view (handed revised queue map))
b_started a queue map c page l =
    ap (λ (o : Outcome B.Chip). o.left)
    (sym (reset_does (view (handed revised queue map)) l (omega arith, (omega arith, tt))))

-- A's and C's leave zeros, whatever stood there
pub a_zeroed : {r : AA.Answer} (s : AS.State)
    → ((cs os : List ℕ) → A.outcome r cs os ≡ A.called A.resets (A.chip s cs os)) → r.state ≡ A.zeroed
unfolding called_by refusal_of answered_at
a_zeroed s e = ap (λ (o : Outcome A.Chip). o.left.state) (e [] [])

pub c_zeroed : {r : CA.Answer} (s : CS.State)
    → ((t : List ℕ) → C.outcome r t ≡ C.called C.resets (C.chip s t)) → r.state ≡ C.zeroed
unfolding called_by refusal_of answered_at
c_zeroed s e = ap (λ (o : Outcome C.Chip). o.left.state) (e [])

pub b_left : {r : BA.Answer} {s : BS.State} (queue : List ℕ) → s ≡ revised
    → ((m : List ℕ) → Does (handed s queue m) (outcome r queue m) (B.called B.resets)) → (map : List ℕ)
    → view (handed r.state queue map) ≡ (B.called B.resets (view (handed revised queue map))).left
b_left queue is e map = ap (λ (o : Outcome B.Chip). o.left) (rw is at (e map).chip)

pub starts : {sa : AS.State} (sb : BS.State) {sc : CS.State} (queue : List ℕ) → sa ≡ A.zeroed
    → ((m : List ℕ) → view (handed sb queue m) ≡ (B.called B.resets (view (handed revised queue m))).left)
    → sc ≡ C.zeroed → (a : A.Chip) (map : List ℕ) (c : C.Chip) (page : List ℕ)
    → whole (record { a = sa; b = sb; c = sc; chosen = ChipA }) a.colours a.overlays queue map c.table page
    ≡ started a queue map c page
unfolding called_by refusal_of answered_at
starts sb queue ea eb ec a map c page = rw (ea, eb map, ec)
