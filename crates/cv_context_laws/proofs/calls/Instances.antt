-- What stands for the names of an instance stands in the game: so it has no calls, and the indices of a key's read are a list.
use Rattle.std.proofs.Common.{◌≡◌, ℕ, suc, Bool, true, false, cond, List, [], ◌∷◌, ◌++◌, Option, Some, None, refl, sym, ap, subst, ◌∙◌}
use Rattle.std.proofs.lemmas.Bool.{and_parts, both_ways}
use Rattle.std.proofs.lemmas.Option.{get_or_from_slice_get, slice_get_within}
use Rattle.std.specs.List.{AllByRecursion}
use Rattle.std.specs.Prelude.{slice_get}
use Rattle.cv_syntax_trees.proofs.lists.Each.{AllByRecursion_append, AllByRecursion_get_or, AllByRecursion_map}
use Rattle.cv_syntax_trees.specs.declared.head.Head.{Head}
use Rattle.cv_syntax_trees.specs.declared.head.Head.TheVariants.{Call as CallHead, Cons, Leaf, Read}
use Rattle.cv_syntax_trees.specs.Tree.{Tree, Empty, Node, chain, first, first_place, second, second_place, same_tree}
use Rattle.cv_syntax_trees.specs.sites.Sites.{first_of}
use Rattle.cv_meaning.specs.contexts.Groups.{Function}
use Rattle.cv_meaning.specs.contexts.Sites.{is_call}
use Rattle.cv_scope_rules.specs.Context.{first_position, replications_below, second_position}
use Rattle.cv_scope_rules.specs.Phrases.{Body, Inputs, Nil, OneCell, Phrase, Term, Terms, is_phrase, parts}
use Rattle.cv_scope_rules.specs.declared.position.Position.{Position}
use Rattle.cv_scope_rules.specs.declared.position.Position.TheVariants.{Anywhere}
use Rattle.cv_scene.specs.Scenes.{or_empty}
use Rattle.cv_scene.specs.Sights.{variable_of}
use Rattle.cv_scene.specs.Instances.{Call, Instance, Matching, call_at, call_by, filled, first_call, guess, is_instance, is_read_of, standing_for, standing_here, term_for}
use Rattle.cv_scene.specs.Sites.{Site, is_guard, sites_in}
use Rattle.cv_scene.specs.Contexts.{call_terms}
use Rattle.cv_scene.specs.Reductions.{Reduction, matching, sites}
use Rattle.cv_context_laws.proofs.shape.Terms.{children}
use Rattle.cv_inline_sites.specs.branches.Moves.{IsList}
use Rattle.cv_inline.specs.NextGame.{call_of, replications_under}
use Rattle.cv_context_laws.proofs.calls.Games.{nil_is_empty, no_row}

-- a tree of a game
pub record Stands (t : Tree) : Type 0 where
  pub phrase : Phrase
  pub is : is_phrase phrase t ≡ true

empty_stands : Stands Empty
unfolding is_phrase
empty_stands = record { phrase = Nil; is = refl }

child_stands : (h : Head) (a b : Tree) → Stands (Node h a b) → Stands a × Stands b
child_stands h a b s = let c = children s.phrase h a b s.is in (record { phrase = c.first; is = c.in_first }, record { phrase = c.second; is = c.in_second })

children_stand : (t : Tree) → Stands t → Stands (first t) × Stands (second t)
children_stand Empty s = (s, s)
children_stand (Node h a b) s = child_stands h a b s

-- what stands for a name

either_stands : (o q : Option Tree) → Stands (or_empty o) → Stands (or_empty q) → Stands (or_empty (first_of o q))
either_stands None q s k = k
either_stands (Some t) q s k = s

here_stands : (x : ℕ) (h : Head) (m : Tree) → Stands m → Stands (or_empty (standing_here x h m))
here_stands x (Leaf y) m s = go _
  where
    go : (b : Bool) → Stands (or_empty (cond b (Some m) None))
    go true = s
    go false = empty_stands
here_stands x h m s = empty_stands

for_stands : (x : ℕ) (body m : Tree) → Stands m → Stands (or_empty (standing_for x body m))
unfolding standing_for
for_stands x Empty m s = empty_stands
for_stands x (Node h a b) m s =
    let c = children_stand m s in
    either_stands (standing_here x h m) _ (here_stands x h m s) (either_stands (standing_for x a (first m)) (standing_for x b (second m)) (for_stands x a (first m) c.0) (for_stands x b (second m) c.1))

-- an instance in a game
pub record IsInGame (M : Matching) (I : Instance) : Type 0 where
  pub key : Stands I.key
  pub read : is_read_of M.key (variable_of I.key) ≡ true
  pub arguments : AllByRecursion Stands I.arguments

guess_in_game : (M : Matching) (f : Function) (m : Tree) → Stands m → is_instance M f (guess M.group f m) m ≡ true → IsInGame M (guess M.group f m)
guess_in_game M f m s e = record {
  key = for_stands M.group.key.0 f.body m s;
  read = (and_parts (is_read_of M.key (variable_of (guess M.group f m).key)) _ (and_parts (same_tree (filled M.group f (guess M.group f m)) m) _ e).1).0;
  arguments = AllByRecursion_map Stands (term_for f.body m) (λ x. for_stands x.0 f.body m s) f.arguments;
}

first_in_game : (M : Matching) (m : Tree) (c : Call) → Stands m → (k : ℕ) (fs : List Function) → first_call M k fs m ≡ Some c → IsInGame M c.instance
first_in_game M m c s k [] e = absurd (none e)
  where
    none : ◌≡◌ {A = Option Call} None (Some c) → ⊥
    none e = cc
first_in_game M m c s k (f ∷ fs) e = go (is_instance M f (guess M.group f m) m) refl e (first_in_game M m c s (suc k) fs)
  where
    here : Call
    here = record { position = k; function = f; instance = guess M.group f m }

    go : (b : Bool) → is_instance M f (guess M.group f m) m ≡ b → first_of (call_by k f (cond b (Some (guess M.group f m)) None)) (first_call M (suc k) fs m) ≡ Some c → (first_call M (suc k) fs m ≡ Some c → IsInGame M c.instance) → IsInGame M c.instance
    go true i z ih = let same : here ≡ c = cc in subst (λ (d : Call). IsInGame M d.instance) same (guess_in_game M f m s i)
    go false i z ih = ih z

-- each site's

abbrev AreInGame : Matching → List Site → Type 0
AreInGame M ss = AllByRecursion (λ (s : Site). IsInGame M s.call.instance) ss

sites_in_game : (M : Matching) (w : Position) (rs : List (ℕ × ℕ)) (p : ℕ) (t : Tree) → Stands t → AreInGame M (sites_in M w rs p t)
unfolding sites_in
sites_in_game M w rs p Empty s = tt
sites_in_game M w rs p (Node h a b) s =
    let c = child_stands h a b s in
    go (call_at M (Node h a b)) refl (is_guard w) _ _ (sites_in_game M (first_position w h) rs (first_place p h) a c.0) (sites_in_game M (second_position w h) (replications_below h rs) (second_place p h a) b c.1)
  where
    go : (o : Option Call) → call_at M (Node h a b) ≡ o → (z : Bool) (xs ys : List Site) → AreInGame M xs → AreInGame M ys
        → AreInGame M (elim o as (λ _. List Site) [ Some c ↦ record { place = p; term = Node h a b; replications = rs; call = c } ∷ [] | None ↦ cond z [] xs ++ ys ])
    go (Some c) e z xs ys f g = (first_in_game M (Node h a b) c s 0 M.group.functions e, tt)
    go None e true xs ys f g = g
    go None e false xs ys f g = AllByRecursion_append (λ (s : Site). IsInGame M s.call.instance) xs ys f g

pub site_in_game : (r : Reduction) → is_phrase Inputs r.scene.game ≡ true → (l : ℕ) (s : Site) → slice_get (sites r) l ≡ Some s → IsInGame (matching r) s.call.instance
site_in_game r e l s at =
    subst (λ (s : Site). IsInGame (matching r) s.call.instance) (get_or_from_slice_get (sites r) l s s at)
    (AllByRecursion_get_or (λ (s : Site). IsInGame (matching r) s.call.instance) (sites r) l s (sites_in_game (matching r) Anywhere [] 0 r.scene.game (record { phrase = Inputs; is = e })) (slice_get_within (sites r) l s at))

-- a call's terms have no calls

no_call_here : (σ : Phrase) (h : Head) (q : Phrase × Phrase) (l : ℕ) → parts σ h ≡ Some q → is_call l h ≡ false
no_call_here Body (CallHead x m) q l e = no_row q e
no_call_here Inputs (CallHead x m) q l e = no_row q e
no_call_here σ (CallHead x m) q l e = no_row q e
no_call_here σ h q l e = refl

no_call : (l : ℕ) (t : Tree) (σ : Phrase) (rs : List (ℕ × ℕ)) → is_phrase σ t ≡ true → call_of rs l t ≡ None
unfolding call_of
no_call l Empty σ rs e = refl
no_call l (Node h a b) σ rs e =
    let c = children σ h a b e in
    go (is_call l h) (no_call_here σ h (c.first, c.second) l c.row) _ _ (no_call l a c.first (replications_under h rs) c.in_first) (no_call l b c.second (replications_under h rs) c.in_second)
  where
    go : (z : Bool) → z ≡ false → (o q : Option (List (ℕ × ℕ) × Tree)) → o ≡ None → q ≡ None → cond z (Some (rs, a)) (first_of o q) ≡ None
    go z i o q f g = cc

no_calls : (l : ℕ) (rs : List (ℕ × ℕ)) (ts : List Tree) → AllByRecursion Stands ts → call_of rs l (chain ts) ≡ None
unfolding call_of
no_calls l rs [] f = refl
no_calls l rs (t ∷ ts) f = ap (λ o. first_of o (call_of rs l (chain ts))) (no_call l t f.0.phrase rs f.0.is) ∙ no_calls l rs ts f.1

pub no_call_in_terms : (M : Matching) (I : Instance) (l : ℕ) (rs : List (ℕ × ℕ)) → IsInGame M I → call_of rs l (call_terms I) ≡ None
no_call_in_terms M I l rs i = no_calls l rs (I.key ∷ I.arguments) (i.key, i.arguments)

-- the indices of a key's read are a list

terms_are_list : (t : Tree) → is_phrase Terms t ≡ true → IsList t
unfolding is_phrase
terms_are_list Empty e = tt
terms_are_list (Node Cons a b) e = terms_are_list b (and_parts (is_phrase Term a) _ e).1
terms_are_list (Node h a b) e = absurd (both_ways false refl e)

leaf_empty : (σ : Phrase) (x : ℕ) (a b : Tree) → is_phrase σ (Node (Leaf x) a b) ≡ true → is_phrase Nil a ≡ true
unfolding is_phrase
leaf_empty OneCell x a b e = (and_parts (is_phrase Nil a) _ e).0
leaf_empty Term x a b e = (and_parts (is_phrase Nil a) _ e).0
leaf_empty σ x a b e = absurd (both_ways false refl e)

read_terms : (σ : Phrase) (x : ℕ) (a b : Tree) → is_phrase σ (Node (Read x) a b) ≡ true → is_phrase Terms a ≡ true
unfolding is_phrase
read_terms OneCell x a b e = (and_parts (is_phrase Terms a) _ e).0
read_terms Term x a b e = (and_parts (is_phrase Terms a) _ e).0
read_terms σ x a b e = absurd (both_ways false refl e)

read_list : (x : ℕ) (t : Tree) → Stands t → is_read_of x (variable_of t) ≡ true → IsList (first t)
read_list x Empty s e = tt
read_list x (Node (Leaf y) a b) s e = subst IsList (sym (nil_is_empty a (leaf_empty s.phrase y a b s.is))) tt
read_list x (Node (Read y) a b) s e = terms_are_list a (read_terms s.phrase y a b s.is)
read_list x (Node h a b) s e = absurd (both_ways false refl e)

pub key_list : (M : Matching) (I : Instance) → IsInGame M I → IsList (first I.key)
key_list M I i = read_list M.key I.key i.key i.read
