-- Lists of bases, and the table for the draws of a context.
use Rattle.std.proofs.Common.{◌≡◌, ℕ, ◌+◌, ◌<◌, true, All, List, [], ◌∷◌, ◌++◌, get_or, length, map, take, ap, sym, subst, ◌∙◌}
use Rattle.std.specs.List.{list_all}
use Rattle.std.specs.Prelude.{nat_lt}
use Rattle.std.proofs.lemmas.Bool.{ltb-true}
use Rattle.std.proofs.lemmas.List.Elements.{All-weaker}
use Rattle.std.proofs.lemmas.List.Sums.{AllPass-from_list_all}
use Rattle.std.proofs.lemmas.List.{map-append, take_more}
use Rattle.cv_meaning.specs.contexts.Inlined.{Drawn}
use Rattle.cv_inline.specs.Draws as of_games
use Rattle.cv_inline.specs.Draws.{labels_from}
use Rattle.cv_inline_sites.specs.declared.listing.draws.Draw.{Draw}
use Rattle.cv_inline_sites.specs.listing.Listed.{draw_in}
use Rattle.cv_inline_draws.specs.names.Fresh.{IsDrawnFor, bases_of}

pub bases_more : (ds : List Draw) (i : ℕ) (d : Draw) (old new : List ℕ) → i < length ds → new ≡ old ++ (get_or ds i d).base ∷ [] → old ≡ bases_of (map draw_in (take i ds)) → new ≡ bases_of (map draw_in (take (i + 1) ds))
bases_more ds i d old new h n o =
    n
    ∙ (ap (λ l. l ++ (get_or ds i d).base ∷ []) o
    ∙ sym (ap (λ l. bases_of (map draw_in l)) (take_more ds i d h)
    ∙ (ap bases_of (map-append draw_in (take i ds) (get_or ds i d ∷ [])) ∙ map-append (λ (e : of_games.Draw). e.base) (map draw_in (take i ds)) (draw_in (get_or ds i d) ∷ []))))

-- numbers that pass the test are all below
pub all_below : (n : ℕ) (xs : List ℕ) → list_all (λ x. nat_lt x n) xs ≡ true → All (λ x. x < n) xs
all_below n xs e = All-weaker (λ x. nat_lt x n ≡ true) (λ x. x < n) (λ x h. ltb-true x n h) xs (AllPass-from_list_all (λ x. nat_lt x n) xs e)

-- the same lists
pub given_lists : (before after : List (List ℕ)) (taken : List ℕ) (ds es : List of_games.Draw) (fs gs : List (ℕ × ℕ)) (ls marks : List ℕ) (d : Drawn) → ds ≡ es → fs ≡ gs → ls ≡ labels_from marks 1 fs →
    IsDrawnFor before after taken ds fs ls d → IsDrawnFor before after taken es gs (labels_from marks 1 gs) d
given_lists before after taken ds es fs gs ls marks d e f g i =
    subst (λ hs. IsDrawnFor before after taken es hs (labels_from marks 1 hs) d) f (subst (λ ks. IsDrawnFor before after taken es fs ks d) g (subst (λ us. IsDrawnFor before after taken us fs ls d) e i))
