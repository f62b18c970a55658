-- What a replay prints: what its log answers, from the board on a desk.
use Rattle.std.specs.Prelude.{ℕ, zero, suc, ◌^◌, ◌-◌, ◌<◌, ◌≡◌, List, [], ◌∷◌, ◌++◌, length, replicate}
use Rattle.std.specs.declared.option.Option.{Option}
use Rattle.std.specs.Io.KnownBytes.{Appends}
use Rattle.hd153108.specs.Hd153108 as A
use Rattle.rgb640.specs.Rgb640 as C
use Rattle.board.specs.Board.{whole, started}
use Rattle.hold.specs.Hold.{hold}
use Rattle.feed.specs.Feed.{Desk, desk, fed}
use Rattle.replay.specs.declared.Stand.{Stand}
use Rattle.replay.specs.declared.Lent.{Lent}

-- the board with its tables and the page, and the bytes of a line that are held
abbrev pub desk_of : Stand → Lent → Desk
desk_of s l = desk (whole s.board l.colours l.overlays l.queue l.map l.table l.page) (hold l.hold s.len)

-- an LF behind a last line that has none: `len` bytes of it are held
abbrev pub last_end : ℕ → List ℕ
last_end zero = []
last_end (suc len) = 10 ∷ []

-- what a log answers; a last line without its LF is answered as well
abbrev pub answers : List ℕ → Desk → List ℕ
answers log d = (fed (log ++ last_end (fed log d).left.hold.len) d).text

-- a board after its first reset, with tables of zeros, and room for 16 bytes of a line
abbrev pub first_desk : A.Chip → C.Chip → Desk
first_desk a c =
    desk (started a (replicate 64 0) (replicate 24576 0) c (replicate 2134 0)) (hold (replicate 16 0) 0)

abbrev pub IsBlack : A.Chip → C.Chip → Type 0
IsBlack a c = (a.colours ≡ replicate 768 0) × (a.overlays ≡ replicate 12 0) × (c.table ≡ replicate 3072 0)

-- THE REPLAY: a log that has fewer bytes than there are turns is answered to its end
abbrev pub Replays : Option (List ℕ) → Option (List ℕ) → List ℕ → Type 0
Replays old new log =
    (a : A.Chip) (c : C.Chip) → IsBlack a c → length log < 2 ^ 64 - 1 → Appends old new (answers log (first_desk a c))
