-- What follows where the conditions of the step hold.
use Rattle.std.proofs.Common.{◌≡◌, ℕ, ◌&&◌, ◌||◌, ◌==◌, not, Bool, true, false, cond, List, [], ◌∷◌, Option, Some, None, refl, sym, ap, ap₂, ◌∙◌, eqb-true}
use Rattle.std.proofs.lemmas.Bool.{both_ways}
use Rattle.cv_syntax_trees.specs.declared.head.Head.{Head}
use Rattle.cv_syntax_trees.specs.declared.head.Head.TheVariants.{New}
use Rattle.cv_syntax_trees.specs.Tree.{Tree, Empty, Node, first_place, second_place}
use Rattle.cv_syntax_trees.specs.sites.Sites.{first_of}
use Rattle.cv_scope_rules.specs.Made.{made_by}
use Rattle.cv_scope_rules.specs.Sites.{Variable}
use Rattle.cv_scene.specs.Scenes.{has_news_alone, is_new_head}
use Rattle.cv_scene.specs.Large.{chooses, first_other_site}
use Rattle.cv_rule_birthday.specs.Comparing.{first_uncompared, is_compared_at, is_one_of}

-- at each of the places two cells are compared
pub all_compared : (game : Tree) (x : ℕ) (places : List ℕ) → first_uncompared game x places ≡ None → (p : ℕ) → is_one_of places p ≡ true → is_compared_at game x p ≡ true
all_compared game x [] e p i = absurd (both_ways false refl i)
all_compared game x (q ∷ ps) e p i = go (is_compared_at game x q) refl e (q == p) refl i (all_compared game x ps)
  where
    go : (v : Bool) → is_compared_at game x q ≡ v → cond v (first_uncompared game x ps) (Some q) ≡ None → (w : Bool) → (q == p) ≡ w → (w || is_one_of ps p) ≡ true
        → (first_uncompared game x ps ≡ None → (p : ℕ) → is_one_of ps p ≡ true → is_compared_at game x p ≡ true) → is_compared_at game x p ≡ true
    go true f k true j l ih = ap (is_compared_at game x) (sym (eqb-true q p j)) ∙ f
    go true f k false j l ih = ih k p l
    go false f k w j l ih = absurd (cc)

-- where there is no other definition in a tree, there is none at its node and none in its parts

record HasNone (large : ℕ → Bool) (x p : ℕ) (h : Head) (a b : Tree) : Type 0 where
  here : (made_by h a (Variable x) && not (chooses large h)) ≡ false
  first : first_other_site large x (first_place p h) a ≡ None
  second : first_other_site large x (second_place p h a) b ≡ None

none_parts : (large : ℕ → Bool) (x p : ℕ) (h : Head) (a b : Tree) → first_other_site large x p (Node h a b) ≡ None → HasNone large x p h a b
unfolding first_other_site
none_parts large x p h a b e = go (made_by h a (Variable x) && not (chooses large h)) refl e
  where
    both : (o q : Option ℕ) → first_of o q ≡ None → (o ≡ None) × (q ≡ None)
    both None q f = (refl, f)
    both (Some k) q f = absurd (cc)

    go : (v : Bool) → (made_by h a (Variable x) && not (chooses large h)) ≡ v → cond v (Some p) (first_of (first_other_site large x (first_place p h) a) (first_other_site large x (second_place p h a) b)) ≡ None → HasNone large x p h a b
    go true i f = absurd (cc)
    go false i f = let r = both _ _ f in record { here = i; first = r.0; second = r.1 }

-- no definition of the variable is another than a `new`
pub chosen_alone : (large : ℕ → Bool) (x p : ℕ) (t : Tree) → first_other_site large x p t ≡ None → has_news_alone x t ≡ true
unfolding has_news_alone
chosen_alone large x p Empty e = refl
chosen_alone large x p (Node h a b) e =
    let r = none_parts large x p h a b e in
    go (made_by h a (Variable x)) (chooses large h) refl r.here (chosen_alone large x (first_place p h) a r.first) (chosen_alone large x (second_place p h a) b r.second)
  where
    is_new : (h : Head) → chooses large h ≡ true → is_new_head h ≡ true
    is_new (New y T) f = refl
    is_new h f = absurd (both_ways false refl f)

    right_true : (v : Bool) → (v || true) ≡ true
    right_true true = refl
    right_true false = refl

    go : (v w : Bool) → chooses large h ≡ w → (v && not w) ≡ false → has_news_alone x a ≡ true → has_news_alone x b ≡ true → ((is_new_head h || not v) && (has_news_alone x a && has_news_alone x b)) ≡ true
    go true false i f k l = absurd (both_ways true f refl)
    go true true i f k l = ap₂ (λ u v. (u || false) && v) (is_new h i) (ap₂ ◌&&◌ k l)
    go false w i f k l = ap₂ ◌&&◌ (right_true (is_new_head h)) (ap₂ ◌&&◌ k l)
