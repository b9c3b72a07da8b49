-- The branches of a find for the calls of a site, by the branches of the text that go over them.
use Rattle.std.proofs.Common.{◌≡◌, ℕ, suc, ◌+◌, ◌<◌, ◌≤◌, Bool, true, false, cond, ◌==◌, List, [], ◌∷◌, ◌++◌, get_or, length, map, take, refl, ap, sym, subst, ◌∙◌, append_assoc}
use Rattle.std.specs.Prelude.{flat_map}
use Rattle.std.proofs.lemmas.List.{flat_map_more, map-append, take_all, take_more}
use Rattle.cv_pool.specs.KindTree.{KindTree}
use Rattle.cv_syntax_trees.specs.declared.head.Head.TheVariants.{Binder, Branch, Cons}
use Rattle.cv_syntax_trees.specs.Tree.{Tree, Node}
use Rattle.cv_meaning.specs.contexts.Inlined.{Caller, Drawn, Scope, index_terms, with_call_of}
use Rattle.cv_inline_laws.specs.extents.Extents as extents
use Rattle.cv_inline_laws.specs.extents.Extents.{Extent, all_beside, beside, front, of_body, of_branches, of_find, under}
use Rattle.cv_inline_sites.specs.declared.pairs.pairs.Pair as code
use Rattle.cv_inline_sites.specs.pairs.Pairs.{Pair, pair_in, pairs_with}
use Rattle.cv_inline_measure.specs.declared.added.Added.{Added}
use Rattle.cv_inline_measure.specs.declared.found.Found.{Found}
use Rattle.cv_inline_measure.specs.declared.setting.Setting.{Setting}
use Rattle.cv_inline_measure.specs.Counts.{IsTold, measure_in}
use Rattle.cv_inline.specs.declared.terms.calling.Calling.{Calling}
use Rattle.cv_inline.specs.terms.Callers.{caller_in}
use Rattle.cv_inline.specs.NextGame as game
use Rattle.cv_inline_sites.specs.listing.Callings.{calling_in, callers_in, callings_in}
use Rattle.cv_inline_measure.specs.Settings.{AreLiveSites, IsFound, IsLiveOther, is_any}

module _ (μ : extents.Measure) (d : Drawn) (ss : List Caller) (c : Caller) (Σ : Scope) (p : ℕ) (s : Caller) where
  abbrev scope_for : Pair → Scope
  scope_for q = with_call_of Σ q.index (index_terms c.replications) (d.index c.number p s.number q.number) s

  abbrev pub of_pair : Pair → Extent
  of_pair q = under μ 1 (front μ d c (scope_for q) (d.index c.number p s.number q.number) s q.cells q.condition) (of_body μ d ss c (scope_for q) q.place q.body)

  pub branches_by_pairs : (k r : ℕ) (t : Tree) → of_branches μ d ss c Σ p s k r t ≡ map of_pair (pairs_with s.bound k r t)
  unfolding of_branches pairs_with
  branches_by_pairs k r (Node Cons (Node Branch (Node (Binder u n) x y) (Node Cons cells (Node Cons m body))) more) =
      go (s.bound == n) _ _ _ (branches_by_pairs (suc k) _ more)
    where
      go : (b : Bool) (q : Pair) (es : List Extent) (qs : List Pair) → es ≡ map of_pair qs → cond b (of_pair q ∷ es) es ≡ map of_pair (cond b (q ∷ qs) qs)
      go true q es qs e = ap (λ l. of_pair q ∷ l) e
      go false q es qs e = e
  branches_by_pairs k r t = refl

all_more : (μ : extents.Measure) (es : List Extent) (e o : Extent) → all_beside μ (es ++ e ∷ []) o ≡ beside μ e (all_beside μ es o)
all_more μ [] e o = refl
all_more μ (f ∷ es) e o = all_more μ es e (beside μ f o)

any_more : (es : List Extent) (e : Extent) → is_any (es ++ e ∷ []) ≡ true
any_more [] e = refl
any_more (f ∷ es) e = refl

pub found_more : (s : Setting) (es : List Extent) (e o : Extent) (a : Added) → IsTold a (beside (measure_in s.measure) e (all_beside (measure_in s.measure) es o)) → IsFound s (record { any = true; all = a }) (es ++ e ∷ []) o
found_more s es e o a t = record { any = sym (any_more es e); all = subst (IsTold a) (sym (all_more (measure_in s.measure) es e o)) t }

pub found_any : (s : Setting) (f : Found) (es : List Extent) (o : Extent) (a : Added) → IsFound s f es o → f.any ≡ true → IsTold a (under (measure_in s.measure) 1 0 (all_beside (measure_in s.measure) es o)) → IsTold a (of_find (measure_in s.measure) es o)
found_any s f [] o a h e t = absurd (cc)
found_any s f (x ∷ es) o a h e t = t

pub found_none : (s : Setting) (f : Found) (es : List Extent) (o : Extent) → IsFound s f es o → f.any ≡ false → IsTold f.all (of_find (measure_in s.measure) es o)
found_none s f [] o h e = h.all
found_none s f (x ∷ es) o h e = absurd (cc)

-- one more pair
pub pair_more : (s : Setting) (f : Found) (g : Pair → Extent) (trees : List KindTree) (qs : List code.Pair) (k : ℕ) (x : code.Pair) (es : List Extent) (o : Extent) → k < length qs →
    IsFound s f ((es ++ map g (map (pair_in trees) (take k qs))) ++ g (pair_in trees (get_or qs k x)) ∷ []) o → IsFound s f (es ++ map g (map (pair_in trees) (take (k + 1) qs))) o
pair_more s f g trees qs k x es o h = subst (λ l. IsFound s f l o) whole where
  h' : List Extent
  h' = map g (map (pair_in trees) (take k qs))

  y : code.Pair
  y = get_or qs k x

  whole : (es ++ h') ++ g (pair_in trees y) ∷ [] ≡ es ++ map g (map (pair_in trees) (take (k + 1) qs))
  whole =
      append_assoc es h' (g (pair_in trees y) ∷ [])
      ∙ ap (λ l. es ++ l) (sym (ap (λ l. map g (map (pair_in trees) l)) (take_more qs k x h)
      ∙ (ap (map g) (map-append (pair_in trees) (take k qs) (y ∷ [])) ∙ map-append g (map (pair_in trees) (take k qs)) (pair_in trees y ∷ []))))

-- all pairs
pub pairs_whole : (s : Setting) (f : Found) (g : Pair → Extent) (trees : List KindTree) (qs items : List code.Pair) (k : ℕ) (es bs : List Extent) (o : Extent) (ps : List Pair) → length qs ≤ k → qs ≡ items → map (pair_in trees) items ≡ ps → bs ≡ map g ps →
    IsFound s f (es ++ map g (map (pair_in trees) (take k qs))) o → IsFound s f (es ++ bs) o
pairs_whole s f g trees qs items k es bs o ps l e m b h =
    subst (λ x. IsFound s f (es ++ x) o) (ap (λ x. map g (map (pair_in trees) x)) (take_all k qs l ∙ e) ∙ (ap (map g) m ∙ sym b)) h

-- one more site

callers_more : (trees : List KindTree) (xs : List Calling) (i : ℕ) (d : Calling) → i < length xs → callers_in trees (take (i + 1) xs) ≡ callers_in trees (take i xs) ++ caller_in trees (get_or xs i d).caller ∷ []
callers_more trees xs i d h =
    ap (callers_in trees) (take_more xs i d h)
    ∙ (ap (map (λ (c : game.Calling). c.caller)) (map-append (calling_in trees) (take i xs) (get_or xs i d ∷ [])) ∙ map-append (λ (c : game.Calling). c.caller) (callings_in trees (take i xs)) (calling_in trees (get_or xs i d) ∷ []))

pub site_more : (s : Setting) (f : Found) (g : Caller → List Extent) (trees : List KindTree) (xs : List Calling) (i : ℕ) (d x : Calling) (o : Extent) → i < length xs → x ≡ get_or xs i d →
    IsFound s f (flat_map g (callers_in trees (take i xs)) ++ g (caller_in trees x.caller)) o → IsFound s f (flat_map g (callers_in trees (take (i + 1) xs))) o
site_more s f g trees xs i d x o h e = subst (λ l. IsFound s f l o) whole where
  before : List Caller
  before = callers_in trees (take i xs)

  whole : flat_map g before ++ g (caller_in trees x.caller) ≡ flat_map g (callers_in trees (take (i + 1) xs))
  whole =
      ap (λ (k : Calling). flat_map g before ++ g (caller_in trees k.caller)) e
      ∙ (flat_map_more g [] before (caller_in trees (get_or xs i d).caller) ∙ ap (flat_map g) (sym (callers_more trees xs i d h)))

pub sites_whole : (s : Setting) (f : Found) (g : Caller → List Extent) (trees : List KindTree) (xs : List Calling) (i : ℕ) (o : Extent) → length xs ≤ i → IsFound s f (flat_map g (callers_in trees (take i xs))) o → IsFound s f (flat_map g (callers_in trees xs)) o
sites_whole s f g trees xs i o l = subst (λ x. IsFound s f (flat_map g (callers_in trees x)) o) (take_all i xs l)
