-- What a variable's only site says: each other construct of a tree that defines it is that one.
use Rattle.std.proofs.Common.{◌≡◌, ℕ, ◌+◌, ◌≤◌, ◌&&◌, ◌||◌, Bool, true, false, cond, List, [], ◌∷◌, ◌++◌, length, ◌⊎◌, inl, inr, refl, sym, ap₂, ◌∙◌, arith}
use Rattle.std.proofs.lemmas.Bool.{both_ways, and_from, or_left, or_right}
use Rattle.std.proofs.lemmas.List.{length-append}
use Rattle.cv_syntax_trees.specs.Tree.{Tree, Empty, Node, first_place, second_place}
use Rattle.cv_scope_rules.specs.declared.position.Position.{Position}
use Rattle.cv_scope_rules.specs.declared.position.Position.TheVariants.{Anywhere}
use Rattle.cv_scope_rules.specs.Context.{Context, first_context, first_position, nothing_known, second_context, second_position}
use Rattle.cv_scope_rules.specs.Made.{made_by}
use Rattle.cv_scope_rules.specs.Sites.{Variable}
use Rattle.cv_scope_runs.specs.Promises.{IsDefinition, after_site, definitions_in, definitions_of}
use Rattle.cv_rule_codef.specs.Adjacent.{are_joined, begins_with, defines_both, following, sites}
use Rattle.cv_rule_codef.proofs.Following.{IsFollowed}

-- definitions

one_or_none : {A : Type 0} (b : Bool) (x : A) → length (cond b (x ∷ []) []) ≡ cond b 1 0
one_or_none true x = refl
one_or_none false x = refl

pub count_definitions : (x : ℕ) (w : Position) (Γ : Context) (p : ℕ) (t : Tree) → length (definitions_in x w Γ p t) ≡ sites x t
unfolding definitions_in sites
count_definitions x w Γ p Empty = refl
count_definitions x w Γ p (Node h a b) =
    let ds = definitions_in x (first_position w h) (first_context w h Γ) (first_place p h) a in
    let es = definitions_in x (second_position w h) (second_context w h a Γ) (second_place p h a) b in
    length-append (cond (made_by h a (Variable x)) ((p, after_site h a b Γ) ∷ []) []) (ds ++ es)
    ∙ ap₂ ◌+◌ (one_or_none (made_by h a (Variable x)) (p, after_site h a b Γ))
    (length-append ds es ∙ ap₂ ◌+◌ (count_definitions x (first_position w h) (first_context w h Γ) (first_place p h) a) (count_definitions x (second_position w h) (second_context w h a Γ) (second_place p h a) b))

-- two definitions of a variable with one site are one
same_of_one : (d e : ℕ × Context) (ds : List (ℕ × Context)) → length ds ≡ 1 → IsDefinition d ds → IsDefinition e ds → d ≡ e
same_of_one d e [] n i j = absurd i
same_of_one d e (c ∷ []) n (inl i) (inl j) = i ∙ sym j
same_of_one d e (c ∷ []) n (inl i) (inr j) = absurd j
same_of_one d e (c ∷ []) n (inr i) j = absurd i
same_of_one d e (c ∷ f ∷ ds) n i j = absurd (omega arith)

pub only_definition : (x : ℕ) (game : Tree) (d e : ℕ × Context) → sites x game ≡ 1 → IsDefinition d (definitions_of game x) → IsDefinition e (definitions_of game x) → d ≡ e
unfolding sites
only_definition x game d e n i j = same_of_one d e (definitions_of game x) (count_definitions x Anywhere nothing_known 0 game ∙ n) i j

-- constructs

module _ (x y : ℕ) where
  none_followed : (t : Tree) → sites x t ≡ 0 → IsFollowed x y t
  unfolding sites
  none_followed Empty n = tt
  none_followed (Node h a b) n = go (made_by h a (Variable x)) refl n (none_followed a) (none_followed b)
    where
      go : (m : Bool) → made_by h a (Variable x) ≡ m → cond m 1 0 + (sites x a + sites x b) ≡ 0 → (sites x a ≡ 0 → IsFollowed x y a) → (sites x b ≡ 0 → IsFollowed x y b) → IsFollowed x y (Node h a b)
      go true e n f k = absurd (omega arith)
      go false e n f k = (λ i. absurd (both_ways (made_by h a (Variable x)) e i), f (omega arith), k (omega arith))

  joined_sites : (t : Tree) → are_joined x y t ≡ true → 1 ≤ sites x t
  unfolding are_joined sites
  joined_sites Empty e = absurd (both_ways false refl e)
  joined_sites (Node h a b) e =
      go (made_by h a (Variable x)) (are_joined x y a) refl (are_joined x y b) refl e (joined_sites a) (joined_sites b)
    where
      go : (m v : Bool) → are_joined x y a ≡ v → (w : Bool) → are_joined x y b ≡ w
          → ((m && (made_by h a (Variable y) || begins_with y (following h b))) || (v || w)) ≡ true
          → (are_joined x y a ≡ true → 1 ≤ sites x a) → (are_joined x y b ≡ true → 1 ≤ sites x b) → 1 ≤ cond m 1 0 + (sites x a + sites x b)
      go true v j w k e r s = omega arith
      go false true j w k e r s = let l : 1 ≤ sites x a = r j in omega arith
      go false false j true k e r s = let l : 1 ≤ sites x b = s k in omega arith
      go false false j false k e r s = absurd (both_ways false refl e)

  -- the second variable follows everywhere, or one construct defines both
  pub joined_either : (t : Tree) → sites x t ≡ 1 → are_joined x y t ≡ true → (are_joined y x t ≡ true) ⊎ IsFollowed x y t
  unfolding are_joined sites
  joined_either Empty n e = absurd (both_ways false refl e)
  joined_either (Node h a b) n e =
      go (made_by h a (Variable x)) refl (made_by h a (Variable y)) refl (begins_with y (following h b)) refl (are_joined x y a) refl (are_joined x y b) refl n e (joined_either a) (joined_either b)
    where
      Either : Type 0
      Either = (((made_by h a (Variable y) && (made_by h a (Variable x) || begins_with x (following h b))) || (are_joined y x a || are_joined y x b)) ≡ true) ⊎ IsFollowed x y (Node h a b)

      here : made_by h a (Variable y) ≡ true → made_by h a (Variable x) ≡ true → Either
      here i j = inl (or_left _ _ (and_from (made_by h a (Variable y)) _ i (or_left (made_by h a (Variable x)) _ j)))

      in_first : (made_by h a (Variable x) ≡ false) → sites x b ≡ 0 → (are_joined y x a ≡ true) ⊎ IsFollowed x y a → Either
      in_first i m (inl k) = inl (or_right (defines_both y x h a b) _ (or_left (are_joined y x a) _ k))
      in_first i m (inr k) = inr (λ j. absurd (both_ways (made_by h a (Variable x)) i j), k, none_followed b m)

      in_second : (made_by h a (Variable x) ≡ false) → sites x a ≡ 0 → (are_joined y x b ≡ true) ⊎ IsFollowed x y b → Either
      in_second i m (inl k) = inl (or_right (defines_both y x h a b) _ (or_right (are_joined y x a) _ k))
      in_second i m (inr k) = inr (λ j. absurd (both_ways (made_by h a (Variable x)) i j), none_followed a m, k)

      go : (m : Bool) → made_by h a (Variable x) ≡ m → (o : Bool) → made_by h a (Variable y) ≡ o → (f : Bool) → begins_with y (following h b) ≡ f → (v : Bool) → are_joined x y a ≡ v → (w : Bool) → are_joined x y b ≡ w
          → cond m 1 0 + (sites x a + sites x b) ≡ 1 → ((m && (o || f)) || (v || w)) ≡ true
          → (sites x a ≡ 1 → are_joined x y a ≡ true → (are_joined y x a ≡ true) ⊎ IsFollowed x y a) → (sites x b ≡ 1 → are_joined x y b ≡ true → (are_joined y x b ≡ true) ⊎ IsFollowed x y b)
          → Either
      go true i true j f k v l w q n e r s = here j i
      go true i false j true k v l w q n e r s = inr (λ z. k, none_followed a (omega arith), none_followed b (omega arith))
      go true i false j false k true l w q n e r s = let z : 1 ≤ sites x a = joined_sites a l in absurd (omega arith)
      go true i false j false k false l true q n e r s = let z : 1 ≤ sites x b = joined_sites b q in absurd (omega arith)
      go true i false j false k false l false q n e r s = absurd (both_ways false refl e)
      go false i o j f k true l w q n e r s = let z : 1 ≤ sites x a = joined_sites a l in in_first i (omega arith) (r (omega arith) l)
      go false i o j f k false l true q n e r s = let z : 1 ≤ sites x b = joined_sites b q in in_second i (omega arith) (s (omega arith) q)
      go false i o j f k false l false q n e r s = absurd (both_ways false refl e)
