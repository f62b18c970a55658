-- The start of a replay: nothing is read, nothing waits, and the board is as a reset leaves it.
use Rattle.std.proofs.Common.{ℕ, ◌-◌, ◌^◌, ◌<◌, ◌≡◌, List, [], ◌++◌, length, replicate, None, Some, IfSome, Result}
use Rattle.std.proofs.Common.{Ok, Err, OnOk, sym, ap, ◌∙◌, subst, append-nil}
use Rattle.std.specs.declared.option.Option.{Option}
use Rattle.std.specs.Io.KnownBytes.{Appends, append_known}
use Rattle.hd153108.specs.Hd153108 as A
use Rattle.rgb640.specs.Rgb640 as C
use Rattle.board.specs.declared.Board.{Board}
use Rattle.board.specs.Board.{whole, started}
use Rattle.hold.specs.Hold.{hold}
use Rattle.feed.specs.Feed.{Desk, desk}
use Rattle.printer.specs.Held.{held}
use Rattle.input.specs.Input.{coming}
use Rattle.replay.specs.Replay.{answers, first_desk, IsBlack, Replays}

pub first : (board : Board) (a : A.Chip) (c : C.Chip)
    → whole board a.colours a.overlays (replicate 64 0) (replicate 24576 0) c.table (replicate 2134 0)
    ≡ started a (replicate 64 0) (replicate 24576 0) c (replicate 2134 0)
    → IsBlack a c
    → desk (whole board (replicate 768 0) (replicate 12 0) (replicate 64 0) (replicate 24576 0) (replicate 3072 0)
    (replicate 2134 0)) (hold (replicate 16 0) 0) ≡ first_desk a c
first board a c is black =
    (λ k. desk (whole board (sym black.0 k) (sym black.1 k) (replicate 64 0) (replicate 24576 0) (sym black.2 k)
    (replicate 2134 0)) (hold (replicate 16 0) 0))
    ∙ ap (λ w. desk w (hold (replicate 16 0) 0)) is

none_waits : (a b : Option (List ℕ)) (bytes : List ℕ) → Appends (append_known a []) b bytes → Appends a b bytes
none_waits None b bytes p = tt
none_waits (Some x) b bytes p = subst (λ y. Appends (Some y) b bytes) (append-nil x) p

pub replays : {T E : Type 0} (r : Result T E) (remaining old new : Option (List ℕ)) (start : Desk)
    (input waits : List ℕ) → input ≡ [] → waits ≡ []
    → ((a : A.Chip) (c : C.Chip) → IsBlack a c → start ≡ first_desk a c)
    → ((log : List ℕ) → coming remaining input ≡ Some log → length log < 2 ^ 64 - 1
    → OnOk r (Appends (held old waits) new (answers log start)))
    → OnOk r (IfSome remaining (Replays old new))
replays (Err e) remaining old new start input waits none empty black h = tt
replays (Ok x) None old new start input waits none empty black h = tt
replays (Ok x) (Some log) old new start input waits none empty black h = λ a c b few.
    let told = h log (ap (λ (i : List ℕ). Some (i ++ log)) none) few in
    subst (λ d. Appends old new (answers log d)) (black a c b)
    (none_waits old new (answers log start)
    (subst (λ w. Appends (append_known old w) new (answers log start)) empty told))
