-- The branches for the calls of sites, site by site.
use Rattle.std.proofs.Common.{◌≡◌, ℕ, ◌+◌, ◌<◌, List, [], ◌∷◌, ◌++◌, All, length, map, take, get_or, slice_get, Option, Some, option_map, refl, ap, subst, sym, ◌∙◌, append_assoc, append-nil}
use Rattle.std.proofs.lemmas.List.{map-append, take_more}
use Rattle.std.proofs.lemmas.List.Elements.{All-append, All-map}
use Rattle.std.proofs.lemmas.Option.{slice_get-get_or}
use Rattle.cv_pool.specs.KindTree.{KindTree}
use Rattle.cv_pool.specs.declared.node.NodeId.{NodeId}
use Rattle.cv_syntax_trees.specs.Tree.{Tree}
use Rattle.cv_meaning.specs.contexts.Inlined.{Caller}
use Rattle.cv_inline.specs.NextGame as game
use Rattle.cv_inline.specs.declared.terms.calling.Calling.{Calling}
use Rattle.cv_inline_sites.specs.listing.Callings.{callers_in, calling_in}
use Rattle.cv_inline_sites.specs.declared.pairs.pairs.Pair as code
use Rattle.cv_inline_sites.specs.pairs.Pairs.{IsPairOver, Pair, pair_in, pairs_with}
use Rattle.cv_inline_walk.specs.declared.pieces.choices.Choice.{Choice}
use Rattle.cv_inline_walk.specs.pieces.Choices.{IsChoice, caller_of, choice_in, choices_over, choose}

over_append : (rs ss : List Caller) (p : ℕ) (t : Tree) → choices_over (rs ++ ss) p t ≡ choices_over rs p t ++ choices_over ss p t
over_append [] ss p t = refl
over_append (r ∷ rs) ss p t =
    let qs : List (Option Caller × Pair) = map (λ (q : Pair). (Some r, q)) (pairs_with r.bound 0 p t) in
    ap (λ l. qs ++ l) (over_append rs ss p t) ∙ sym (append_assoc qs (choices_over rs p t) (choices_over ss p t))

pub site_there : (callings : List Calling) (i : ℕ) (d x : Calling) → i < length callings → x ≡ get_or callings i d → slice_get callings i ≡ Some x
site_there callings i d x h e = slice_get-get_or callings i d h ∙ ap (λ y. Some y) (sym e)

module _ (trees : List KindTree) (callings : List Calling) (p : ℕ) where
  callers_more : (i : ℕ) (d x : Calling) → i < length callings → x ≡ get_or callings i d → callers_in trees (take (i + 1) callings) ≡ callers_in trees (take i callings) ++ caller_of trees x ∷ []
  callers_more i d x h e =
      let g : game.Calling → Caller = λ (k : game.Calling). k.caller in
      ap (callers_in trees) (take_more callings i d h ∙ ap (λ y. take i callings ++ y ∷ []) (sym e))
      ∙ (ap (map g) (map-append (calling_in trees) (take i callings) (x ∷ [])) ∙ map-append g (map (calling_in trees) (take i callings)) (calling_in trees x ∷ []))

  chosen : (i : ℕ) (x : Calling) (qs : List code.Pair) → slice_get callings i ≡ Some x → map (choice_in trees callings) (map (choose i) qs) ≡ map (λ (q : Pair). (Some (caller_of trees x), q)) (map (pair_in trees) qs)
  chosen i x [] e = refl
  chosen i x (q ∷ qs) e = λ j. (option_map (caller_of trees) (e j), pair_in trees q) ∷ chosen i x qs e j

  pub choices_more : (t : Tree) (i : ℕ) (d x : Calling) (old new : List Choice) (items qs : List code.Pair) → i < length callings → x ≡ get_or callings i d → items ≡ qs → map (pair_in trees) qs ≡ pairs_with (get_or callings i d).caller.bound 0 p t → new ≡ old ++ map (choose i) items →
      map (choice_in trees callings) old ≡ choices_over (callers_in trees (take i callings)) p t → map (choice_in trees callings) new ≡ choices_over (callers_in trees (take (i + 1) callings)) p t
  choices_more t i d x old new items qs h e s pairs n o =
      let here : List (Option Caller × Pair) = map (λ (q : Pair). (Some (caller_of trees x), q)) (pairs_with x.caller.bound 0 p t) in
      ap (map (choice_in trees callings)) n
      ∙ (map-append (choice_in trees callings) old (map (choose i) items)
      ∙ ((λ j. o j ++ (chosen i x items (site_there callings i d x h e) ∙ ap (map (λ (q : Pair). (Some (caller_of trees x), q))) (ap (map (pair_in trees)) s ∙ (pairs ∙ ap (λ y. pairs_with y.caller.bound 0 p t) (sym e)))) j)
      ∙ (ap (λ l. choices_over (callers_in trees (take i callings)) p t ++ l) (sym (append-nil here))
      ∙ (sym (over_append (callers_in trees (take i callings)) (caller_of trees x ∷ []) p t) ∙ ap (λ rs. choices_over rs p t) (sym (callers_more i d x h e))))))

  pub each_more : (list : Option NodeId) (i : ℕ) (old new : List Choice) (items qs : List code.Pair) → i < length callings → items ≡ qs → All (IsPairOver trees p list) qs → new ≡ old ++ map (choose i) items → All (IsChoice trees callings p list) old → All (IsChoice trees callings p list) new
  each_more list i old new items qs h s over n o =
      subst (All (IsChoice trees callings p list)) (sym n)
      (All-append (IsChoice trees callings p list) old (map (choose i) items) o (All-map (IsChoice trees callings p list) (choose i) items (λ j q g. record { site = h; pair = subst (All (IsPairOver trees p list)) (sym s) over j q g })))
