-- Laws of runs, for any chip and any calls. Assumes nothing.
use mathlib.Core.Path.{◌≡◌, refl, sym, ap, ◌∙◌}
use mathlib.Core.Bool.{Bool, true, false}
use mathlib.Core.List.{List, [], ◌∷◌, ◌++◌, append_assoc, map}
use Rattle.vocabulary.specs.Choice.{pick}
use Rattle.vocabulary.specs.Outcome.{Outcome}
use Rattle.vocabulary.specs.Reply.{Reply}
use Rattle.vocabulary.specs.Run.{besides, after, gathered, Along, gathered_besides, reply_to, replies_besides}
use Rattle.vocabulary.specs.Run.{Keeps, Unnoticed, Alike, RunsAlike}
use Rattle.vocabulary.proofs.Choice.{picks_first, picks_second, cases}

-- ---- One run
module _ {C K : Type 0} (step : K → C → Outcome C) where
  -- no call; one call and then the others, from where it leads
  pub after_none : (c : C) → after step [] c ≡ c
  unfolding after
  after_none c = refl

  pub after_next : (k : K) (ks : List K) (c : C) {d : C} → (step k c).left ≡ d
      → after step (k ∷ ks) c ≡ after step ks d
  unfolding after
  after_next k ks c e = ap (after step ks) e

  -- in two parts: the second is made on what the first left
  pub after_append : (ks ls : List K) (c : C) → after step (ks ++ ls) c ≡ after step ls (after step ks c)
  unfolding after
  after_append [] ls c = refl
  after_append (k ∷ ks) ls c = after_append ks ls (step k c).left

  pub gathered_append : {A : Type 0} (gives : K → C → List A) (ks ls : List K) (c : C)
      → gathered step gives (ks ++ ls) c ≡ gathered step gives ks c ++ gathered step gives ls (after step ks c)
  unfolding after gathered
  gathered_append gives [] ls c = refl
  gathered_append gives (k ∷ ks) ls c =
      let d = (step k c).left in
      ap (λ (l : List _). gives k c ++ l) (gathered_append gives ks ls d)
      ∙ sym (append_assoc (gives k c) (gathered step gives ks d) (gathered step gives ls (after step ks d)))

  pub along_append : (P : K → C → Type 0) (ks ls : List K) (c : C) → Along step P ks c
      → Along step P ls (after step ks c) → Along step P (ks ++ ls) c
  unfolding after Along
  along_append P [] ls c h g = g
  along_append P (k ∷ ks) ls c (h, hs) g = (h, along_append P ks ls (step k c).left hs g)

  -- what holds of every call holds along a run
  pub along_all : (P : K → C → Type 0) → ((k : K) (c : C) → P k c) → (ks : List K) (c : C) → Along step P ks c
  unfolding Along
  along_all P h [] c = tt
  along_all P h (k ∷ ks) c = (h k c, along_all P h ks (step k c).left)

  -- what every call keeps, a run keeps; the calls may be such as a condition admits
  pub run_keeps_where : (P : C → Type 0) (Q : K → C → Type 0)
      → ((k : K) (c : C) → Q k c → P c → P (step k c).left) → (ks : List K) (c : C) → Along step Q ks c → P c
      → P (after step ks c)
  unfolding after Along
  run_keeps_where P Q keeps [] c q p = p
  run_keeps_where P Q keeps (k ∷ ks) c (q, qs) p =
      run_keeps_where P Q keeps ks (step k c).left qs (keeps k c q p)

  pub run_keeps : (P : C → Type 0) → Keeps step P → (ks : List K) (c : C) → P c → P (after step ks c)
  run_keeps P keeps ks c p =
      run_keeps_where P (λ (k : K) (d : C). Unit) (λ k d q h. keeps k d h) ks c (along_all _ (λ k d. tt) ks c) p

-- calls of one type made as another's
module _ {C J K : Type 0} (step : K → C → Outcome C) (as_call : J → K) where
  pub after_map : (js : List J) (c : C) → after step (map as_call js) c ≡ after (λ (j : J). step (as_call j)) js c
  unfolding after
  after_map [] c = refl
  after_map (j ∷ js) c = after_map js (step (as_call j) c).left

-- ---- Two chips under the same calls
module _ {C D K : Type 0} (step : K → C → Outcome C) (other : K → D → Outcome D) (kind : K → Bool)
    (R : C → D → Type 0) (alike : Alike step other kind R) where
  run_related : (ks : List K) (c : C) (d : D) → R c d → R (after step ks c) (after other ks d)
  unfolding after
  run_related [] c d r = r
  run_related (k ∷ ks) c d r = run_related ks _ _ (alike.leaves k c d r)

  -- one call's reply, where it is not of the kind
  heard : (k : K) (c : C) (d : D) → R c d
      → pick (kind k) [] (reply_to step k c) ≡ pick (kind k) [] (reply_to other k d)
  heard k c d r =
      cases (kind k)
      (λ e. picks_first [] (reply_to step k c) e ∙ sym (picks_first [] (reply_to other k d) e))
      (λ e. ap (λ (t : Reply). pick (kind k) [] (t ∷ [])) (alike.tells k c d e r))

  run_replies : (ks : List K) (c : C) (d : D) → R c d
      → replies_besides step kind ks c ≡ replies_besides other kind ks d
  unfolding gathered
  run_replies [] c d r = refl
  run_replies (k ∷ ks) c d r =
      let h = heard k c d r in
      let t = run_replies ks _ _ (alike.leaves k c d r) in
      cc

  pub runs_alike : RunsAlike step other kind R
  runs_alike = record { leaves = run_related; replies = run_replies }

-- ---- A run without the calls of a kind
module _ {K : Type 0} (kind : K → Bool) where
  pub besides_append : (ks ls : List K) → besides kind (ks ++ ls) ≡ besides kind ks ++ besides kind ls
  unfolding besides
  besides_append [] ls = refl
  besides_append (k ∷ ks) ls =
      cases (kind k)
      (λ e.
      picks_first _ _ e
      ∙ (besides_append ks ls ∙ ap (λ (l : List K). l ++ besides kind ls) (sym (picks_first _ _ e))))
      (λ e.
      picks_second _ _ e
      ∙ (ap (λ (l : List K). k ∷ l) (besides_append ks ls)
      ∙ ap (λ (l : List K). l ++ besides kind ls) (sym (picks_second _ _ e))))

  -- none of them is of the kind; all of them are
  module _ {J : Type 0} (as_call : J → K) where
    pub besides_none : ((j : J) → kind (as_call j) ≡ false) → (js : List J)
        → besides kind (map as_call js) ≡ map as_call js
    unfolding besides
    besides_none h [] = refl
    besides_none h (j ∷ js) =
        picks_second _ _ (h j) ∙ ap (λ (l : List K). as_call j ∷ l) (besides_none h js)

    pub besides_all : ((j : J) → kind (as_call j) ≡ true) → (js : List J) → besides kind (map as_call js) ≡ []
    unfolding besides
    besides_all h [] = refl
    besides_all h (j ∷ js) = picks_first _ _ (h j) ∙ besides_all h js

-- ---- Calls of a kind that leave their chip: no other call can tell whether they were made
module _ {C K : Type 0} (step : K → C → Outcome C) (kind : K → Bool)
    (stays : (k : K) (c : C) → kind k ≡ true → (step k c).left ≡ c) where
  -- a run is the run without them: where it ends, ..
  after_besides : (ks : List K) (c : C) → after step ks c ≡ after step (besides kind ks) c
  unfolding after besides
  after_besides [] c = refl
  after_besides (k ∷ ks) c =
      cases (kind k)
      (λ e. ap (after step ks) (stays k c e) ∙ (after_besides ks c
      ∙ ap (λ (l : List K). after step l c) (sym (picks_first _ _ e))))
      (λ e. after_besides ks (step k c).left ∙ ap (λ (l : List K). after step l c) (sym (picks_second _ _ e)))

  -- .. and what the others give
  gathered_besides_lem : {A : Type 0} (gives : K → C → List A) (ks : List K) (c : C)
      → gathered_besides step kind gives ks c ≡ gathered step gives (besides kind ks) c
  unfolding gathered besides
  gathered_besides_lem gives [] c = refl
  gathered_besides_lem {A} gives (k ∷ ks) c =
      let all = gathered_besides step kind gives ks in
      cases (kind k)
      (λ e.
      ap (λ (l : List A). l ++ all (step k c).left) (picks_first [] (gives k c) e)
      ∙ (ap all (stays k c e)
      ∙ (gathered_besides_lem gives ks c
      ∙ ap (λ (l : List K). gathered step gives l c) (sym (picks_first _ _ e)))))
      (λ e.
      ap (λ (l : List A). l ++ all (step k c).left) (picks_second [] (gives k c) e)
      ∙ (ap (λ (l : List A). gives k c ++ l) (gathered_besides_lem gives ks (step k c).left)
      ∙ ap (λ (l : List K). gathered step gives l c) (sym (picks_second _ _ e))))

  module _ (ks ls : List K) (c : C) (same : besides kind ks ≡ besides kind ls) where
    ends_alike : after step ks c ≡ after step ls c
    ends_alike = after_besides ks c ∙ (ap (λ (l : List K). after step l c) same ∙ sym (after_besides ls c))

    -- whatever of a call and its chip is gathered, the others give the same
    pub gives_alike : {A : Type 0} (gives : K → C → List A)
        → gathered_besides step kind gives ks c ≡ gathered_besides step kind gives ls c
    gives_alike gives =
        gathered_besides_lem gives ks c
        ∙ (ap (λ (l : List K). gathered step gives l c) same ∙ sym (gathered_besides_lem gives ls c))

  pub unnoticed : Unnoticed step kind
  unnoticed = record { hears = λ ks ls c same. gives_alike ks ls c same (reply_to step); ends = ends_alike }
