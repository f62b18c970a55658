-- The hold: the bytes of a line that is being read, in lent room.
use Rattle.std.specs.Prelude.{ℕ, suc, ◌+◌, ◌≡◌, Bool, List, [], ◌∷◌, eqb, ltb, length, take, set}
use Rattle.vocabulary.specs.Choice.{pick}
use Rattle.port_log.specs.Log.{line_of}
use Rattle.hold.specs.declared.Heard.{Heard}

-- the room, and how many of its bytes are the line that is being read
pub record Hold : Type 0 where
  pub bytes : List ℕ
  pub len : ℕ

abbrev pub hold : List ℕ → ℕ → Hold
hold bytes len = record { bytes = bytes; len = len }

-- the bytes that are held
abbrev pub held : Hold → List ℕ
held h = take h.len h.bytes

-- a byte more of the line, while there is room; some bytes more
unfoldable pub holding : ℕ → Hold → Hold
holding b h = pick (ltb h.len (length h.bytes)) (hold (set h.bytes h.len b) (h.len + 1)) h

unfoldable pub holding_all : List ℕ → Hold → Hold
holding_all [] h = h
holding_all (b ∷ bs) h = holding_all bs (holding b h)

-- how many bytes of a text stand before its first LF, 10, and how many up to it, that with them; where there is none,
-- all
unfoldable pub before : List ℕ → ℕ
before [] = 0
before (b ∷ bs) = pick (eqb b 10) 0 (suc (before bs))

abbrev pub ends : List ℕ → Bool
ends t = ltb (before t) (length t)

unfoldable pub up_to : List ℕ → ℕ
up_to t = pick (ends t) (before t + 1) (before t)

-- no byte of a line is LF
abbrev pub Within : List ℕ → Type 0
Within [] = Unit
Within (b ∷ bs) = (b ≡ 10 → ⊥) × Within bs

-- the hold with what a text has before its first LF
abbrev pub held_of : List ℕ → Hold → Hold
held_of t h = holding_all (take (before t) t) h

-- what was heard of a text: up to where, whether a line ended, what the held bytes say, and the hold afterwards, which
-- is empty where a line ended
pub record Hears (r : Heard) (t : List ℕ) (h : Hold) (bytes : List ℕ) : Type 0 where
  pub taken : r.taken ≡ up_to t
  pub ends : r.ends ≡ ends t
  pub says : r.line ≡ line_of (held (held_of t h))
  pub holds : hold bytes r.len ≡ hold (held_of t h).bytes (pick r.ends 0 (held_of t h).len)
