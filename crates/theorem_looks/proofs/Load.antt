-- A load with looks leaves what it leaves without them. Assumes nothing.
use Prim.Native.Nat.{ℕ}
use mathlib.Core.Path.{◌≡◌, refl, sym, ap, subst, ◌∙◌}
use mathlib.Core.List.{List, [], ◌∷◌, ◌++◌, map}
use Rattle.vocabulary.specs.Choice.{pick}
use Rattle.vocabulary.specs.Run.{besides, after}
use Rattle.vocabulary.proofs.Run.{after_map, besides_append, besides_all, besides_none}
use Rattle.hd153108.specs.Hd153108 as A
use Rattle.hd153108.specs.Hd153108.{Chip, looks, is_look, called}
use Rattle.hd153108.proofs.Keep.{looks_unnoticed}
use Rattle.calls.specs.Calls.{Call, calls_of}
use Rattle.theorem_load.specs.Load.{Leaves, writing, made}
use Rattle.theorem_load.proofs.Load.{load}
use Rattle.theorem_looks.specs.Looks.{panel, amid, below, LoadsWithLooks}

-- without the looks put in between, a list is itself
amid_looks : (places : List ℕ) (ks : List Call)
    → besides is_look (amid (map looks places) (map panel ks)) ≡ map panel ks
unfolding amid besides pick
amid_looks places [] = besides_all is_look looks (λ n. refl) places
amid_looks places (k ∷ ks) =
    besides_append is_look (map looks places) (panel k ∷ amid (map looks places) (map panel ks))
    ∙ (ap (λ (l : List A.Call). l ++ (panel k ∷ besides is_look (amid (map looks places) (map panel ks))))
    (besides_all is_look looks (λ n. refl) places)
    ∙ ap (λ (l : List A.Call). panel k ∷ l) (amid_looks places ks))

-- a run whose other calls are the list's ends where the list's calls end
ends_as_made : (ks : List Call) (run : List A.Call) (c : Chip) → besides is_look run ≡ map panel ks
    → after called run c ≡ made writing ks c
ends_as_made ks run c e =
    looks_unnoticed.ends run (map panel ks) c (e ∙ sym (besides_none is_look panel (λ k. refl) ks))
    ∙ after_map called panel ks c

pub loads_with_looks : LoadsWithLooks
loads_with_looks text lines c e g =
    let leaves = (load text lines c e g).leaves in
    let anywhere : (run : List A.Call) → besides is_look run ≡ map panel (calls_of lines)
    → Leaves lines c (after called run c)
    = λ run s. subst (Leaves lines c) (sym (ends_as_made (calls_of lines) run c s)) leaves in
    record { between = anywhere _ (amid_looks (below 0x1300) (calls_of lines)); anywhere = anywhere }
