-- The sites of a context, one by one.
use Rattle.std.proofs.Common.{◌≡◌, ℕ, suc, ◌+◌, ◌<◌, ◌≤◌, List, [], ◌∷◌, ◌++◌, All, Bor, Option, Some, None, get_or, drop, length, map, refl, ap, ap₂, subst, sym, ◌∙◌, arith}
use Rattle.std.specs.Prelude.{nat_eq, IfSome, option_copied, option_map, slice_get}
use Rattle.std.specs.List.{AllByRecursion}
use Rattle.std.specs.HashMap.{get}
use Rattle.std.specs.Slice.{IsItemAt}
use Rattle.std.proofs.lemmas.List.{append-nil, drop_all, drop_more, map-append}
use Rattle.std.proofs.lemmas.List.Elements.{All-from_recursion}
use Rattle.std.proofs.lemmas.Option.{slice_get-map, slice_get_past, slice_get_read}
use Rattle.cv_pool.specs.declared.node.NodeId.{NodeId}
use Rattle.cv_pool.specs.KindTree.{KindTree}
use Rattle.cv_syntax_trees.specs.Tree.{Tree, Empty, Node, first, second, size}
use Rattle.cv_meaning.specs.contexts.Groups.{Function, Group, function_at}
use Rattle.cv_inline_sites.specs.branches.Moves.{IsList}
use Rattle.cv_inline.specs.NextGame as game
use Rattle.cv_inline.specs.NextGame.{call_of, calling, callings_from}
use Rattle.cv_inline.specs.declared.terms.calling.Calling.{Calling}
use Rattle.cv_inline_sites.specs.listing.Callings.{calling_in, callings_in}
use Rattle.cv_inline_draws.specs.callings.FirstCalls.{FirstCalls, Table, call_in, calls_in}
use Rattle.cv_inline_draws.specs.callings.RightFunctions.{function_in}
use Rattle.cv_inline_draws.specs.callings.Sites.{HasListedKey, HasListedKeys, site_of}
use Rattle.cv_inline_draws.specs.declared.callings.calls.Call.{Call}
use Rattle.cv_inline_draws.proofs.callings.Lists.{more, none_left}

pub found_item : {X : Type 0} (xs : List X) (i : ℕ) (r : Option (Bor X)) → IsItemAt xs i r → option_copied r ≡ slice_get xs i
found_item xs i None h = sym (slice_get_past xs i h.3)
found_item xs i (Some x) h = sym (slice_get_read xs (length xs) i x.now refl h.3.0 h.1)

pub second_small : (t : Tree) → size (second t) ≤ size t
unfolding size
second_small Empty = omega arith
second_small (Node h a b) = omega arith

module _ (trees : List KindTree) (right : List NodeId) (calls : Table) (l k : ℕ) where
  -- no function stands at the position
  pub no_function : (before : List game.Calling) → slice_get right k ≡ None → before ≡ before ++ site_of trees right calls l k
  no_function before e =
      let o : slice_get (map (function_in trees) right) k ≡ None = slice_get-map (function_in trees) right k ∙ ap (option_map (function_in trees)) e in
      sym (append-nil before) ∙ ap (λ xs. before ++ xs) (sym (ap (λ f. calling l f (calls_in trees calls l)) o))

  pub site_found : (f : NodeId) (call : Call) (old new : List Calling) (c : Calling) → slice_get right k ≡ Some f → get nat_eq calls l ≡ Some call → calling_in trees c ∷ [] ≡ calling l (Some (function_in trees f)) (Some (call_in trees call)) → new ≡ old ++ c ∷ [] →
      callings_in trees new ≡ callings_in trees old ++ site_of trees right calls l k
  site_found f call old new c e g h n =
      let o : slice_get (map (function_in trees) right) k ≡ Some (function_in trees f) = slice_get-map (function_in trees) right k ∙ ap (option_map (function_in trees)) e in
      ap (callings_in trees) n ∙ (map-append (calling_in trees) old (c ∷ []) ∙ ap (λ xs. callings_in trees old ++ xs) (h ∙ sym (ap₂ (calling l) o (ap (option_map (call_in trees)) g))))

  -- it is the one of the definition
  pub site_is : (g : Group) (context : Tree) → map (function_in trees) right ≡ g.functions → calls_in trees calls ≡ (λ m. call_of [] m context) → site_of trees right calls l k ≡ calling l (function_at g k) (call_of [] l context)
  site_is g context e h = ap₂ (calling l) (ap (λ fs. slice_get fs k) e) (ap (λ (f : FirstCalls). f l) h)

-- the sites behind

module _ (g : Group) (context : Tree) where
  pub sites_more : (old new : List game.Calling) (fs : List ℕ) (i l d : ℕ) (all : List game.Calling) → i < length fs → new ≡ old ++ calling l (function_at g (get_or fs i d)) (call_of [] l context) → old ++ callings_from g context l (drop i fs) ≡ all → new ++ callings_from g context (l + 1) (drop (i + 1) fs) ≡ all
  unfolding callings_from
  sites_more old new fs i l d all h n so_far =
      let one : List game.Calling = calling l (function_at g (get_or fs i d)) (call_of [] l context) in
      let next : suc l ≡ l + 1 = omega arith in
      more old new one (callings_from g context (l + 1) (drop (i + 1) fs)) (callings_from g context l (drop i fs)) all n (ap (callings_from g context l) (drop_more fs i d h) ∙ ap (λ m. one ++ callings_from g context m (drop (i + 1) fs)) next) so_far

  pub sites_end : (old : List game.Calling) (fs : List ℕ) (i l : ℕ) (all : List game.Calling) → length fs ≤ i → old ++ callings_from g context l (drop i fs) ≡ all → old ≡ all
  unfolding callings_from
  sites_end old fs i l all h so_far = none_left old (callings_from g context l (drop i fs)) all (ap (callings_from g context l) (drop_all i fs h)) so_far

  -- where each first call is at a list, so is each site

  abbrev IsAtList : game.Calling → Type 0
  IsAtList c = IsList c.caller.key

  one_at_list : (l : ℕ) (o : Option Function) (p : Option (List (ℕ × ℕ) × Tree)) → IfSome p (λ c. IsList (first (first c.1))) → AllByRecursion IsAtList (calling l o p)
  one_at_list l None p h = tt
  one_at_list l (Some f) None h = tt
  one_at_list l (Some f) (Some c) h = (h, tt)

  both_at_list : (xs ys : List game.Calling) → AllByRecursion IsAtList xs → AllByRecursion IsAtList ys → AllByRecursion IsAtList (xs ++ ys)
  both_at_list [] ys h i = i
  both_at_list (x ∷ xs) ys h i = (h.0, both_at_list xs ys h.1 i)

  all_at_lists : HasListedKeys context → (l : ℕ) (fs : List ℕ) → AllByRecursion IsAtList (callings_from g context l fs)
  unfolding callings_from
  all_at_lists h l [] = tt
  all_at_lists h l (f ∷ fs) = both_at_list (calling l (function_at g f) (call_of [] l context)) (callings_from g context (suc l) fs) (one_at_list l (function_at g f) (call_of [] l context) (h l)) (all_at_lists h (suc l) fs)

  item_by_item : (trees : List KindTree) (cs : List Calling) → AllByRecursion IsAtList (callings_in trees cs) → AllByRecursion (HasListedKey trees) cs
  item_by_item trees [] h = tt
  item_by_item trees (c ∷ cs) h = (h.0, item_by_item trees cs h.1)

  pub listed_keys : (trees : List KindTree) (cs : List Calling) (fs : List ℕ) → callings_in trees cs ≡ callings_from g context 0 fs → HasListedKeys context → All (HasListedKey trees) cs
  listed_keys trees cs fs e h = All-from_recursion (HasListedKey trees) cs (item_by_item trees cs (subst (AllByRecursion IsAtList) (sym e) (all_at_lists h 0 fs)))
