-- The answer lines of a replay, their LF too.
use Rattle.std.specs.Prelude.{ℕ, zero, suc, ◌/◌, ◌%◌, ◌+◌, List, [], ◌∷◌, ◌++◌, ltb}
use Rattle.vocabulary.specs.Choice.{pick}
use Rattle.hex_digits.specs.Hex.{hex}
use Rattle.answers.specs.declared.News.{News}
use Rattle.answers.specs.declared.News.TheVariants.{Done, Moved, Value, Look, Shown, Sync, Ten}

-- a number of at most so many digits in decimal, without leading zeros
unfoldable pub decimal : ℕ → ℕ → List ℕ
decimal zero n = []
decimal (suc most) n = pick (ltb n 10) [] (decimal most (n / 10)) ++ (48 + n % 10) ∷ []

-- "ok", "bad"
abbrev pub ok_text : List ℕ
ok_text = 111 ∷ 107 ∷ 10 ∷ []

abbrev pub bad_text : List ℕ
bad_text = 98 ∷ 97 ∷ 100 ∷ 10 ∷ []

-- "moved=" N, "refused=" N: a count of 16 bits and a refusal of 8
abbrev pub moved_text : ℕ → List ℕ
moved_text n = 109 ∷ 111 ∷ 118 ∷ 101 ∷ 100 ∷ 61 ∷ decimal 5 n ++ 10 ∷ []

abbrev pub refused_text : ℕ → List ℕ
refused_text n = 114 ∷ 101 ∷ 102 ∷ 117 ∷ 115 ∷ 101 ∷ 100 ∷ 61 ∷ decimal 3 n ++ 10 ∷ []

-- "value=" HH, "look=" HHHH, "colour=" RRGGBB, "sync=" S, "ten=" HHH
abbrev pub value_text : ℕ → List ℕ
value_text v = 118 ∷ 97 ∷ 108 ∷ 117 ∷ 101 ∷ 61 ∷ hex 2 v ++ 10 ∷ []

abbrev pub look_text : ℕ → List ℕ
look_text v = 108 ∷ 111 ∷ 111 ∷ 107 ∷ 61 ∷ hex 4 v ++ 10 ∷ []

abbrev pub colour_text : ℕ → ℕ → ℕ → List ℕ
colour_text r g b = 99 ∷ 111 ∷ 108 ∷ 111 ∷ 117 ∷ 114 ∷ 61 ∷ hex 2 r ++ hex 2 g ++ hex 2 b ++ 10 ∷ []

abbrev pub sync_text : ℕ → List ℕ
sync_text s = 115 ∷ 121 ∷ 110 ∷ 99 ∷ 61 ∷ hex 1 s ++ 10 ∷ []

abbrev pub ten_text : ℕ → List ℕ
ten_text t = 116 ∷ 101 ∷ 110 ∷ 61 ∷ hex 3 t ++ 10 ∷ []

-- what an accepted call tells
abbrev pub news_text : News → List ℕ
news_text Done = ok_text
news_text (Moved n) = moved_text n
news_text (Value v) = value_text v
news_text (Look v) = look_text v
news_text (Shown c) = colour_text c.red c.green c.blue
news_text (Sync s) = sync_text s
news_text (Ten t) = ten_text t

-- a call's answer: its refusal, or else what an accepted one tells
unfoldable pub told : ℕ → List ℕ → List ℕ
told zero accepted = accepted
told (suc n) accepted = refused_text (suc n)
