-- What stands behind a definition stands at the place of the process behind it.
use Rattle.std.proofs.Common.{◌≡◌, ℕ, ◌+◌, ◌<◌, ◌≤◌, Bool, true, false, cond, [], ◌∷◌, Some, refl, sym, ap, subst, ◌∙◌, arith}
use Rattle.std.specs.Prelude.{option_and_then}
use Rattle.std.specs.List.{AllByRecursion}
use Rattle.std.proofs.lemmas.Bool.{both_ways}
use Rattle.cv_syntax_trees.specs.declared.head.Head.{Head}
use Rattle.cv_syntax_trees.specs.declared.head.Head.TheVariants.{In, New, Let, Branch, Cons, Key, Call}
use Rattle.cv_syntax_trees.specs.Head.{weight}
use Rattle.cv_syntax_trees.specs.Tree.{Tree, Empty, Node, first_place, second_place, size, subtree}
use Rattle.cv_scope_rules.specs.Context.{Context, nothing_known}
use Rattle.cv_scope_rules.specs.Sites.{Variable}
use Rattle.cv_scope_rules.specs.Made.{made_by}
use Rattle.cv_scope_rules.specs.Phrases.{Phrase, Inputs, Guards, Cells, Guarded, is_oracle_phrase}
use Rattle.cv_scope_runs.proofs.Games.{has_parts, phrase_parts}
use Rattle.cv_scope_runs.proofs.Rows.{placed, position_of}
use Rattle.cv_path.specs.declared.place.Lies.{Lies}
use Rattle.cv_path.specs.declared.place.Lies.TheVariants.{Here, Within, Behind}
use Rattle.cv_path.specs.Places.{LiesAt}
use Rattle.cv_path.proofs.Bounds.{lies_somewhere}
use Rattle.cv_path.proofs.Going.{subtree_empty, subtree_here, subtree_within, subtree_behind}
use Rattle.cv_derive_facts.specs.Definitions.{IsBehind, can_define, place_behind}
use Rattle.cv_scope_rules.specs.Behind.{behind_site, in_list, sites_in, sites_of}
use Rattle.cv_scope_rules.specs.Above.{first_standing, second_standing, stands_at}
use Rattle.cv_derive_facts.proofs.Flat.{Some_injective, arm_parts, continued_parts, continues}
use Rattle.cv_derive_facts.proofs.Placing.{StandsAs, body_stands, first_stands, game_stands, guards_places, here_tree, second_stands}
use Rattle.cv_syntax_trees.proofs.lists.Each.{AllByRecursion_append}
use Rattle.cv_syntax_trees.proofs.lists.Options.{none_some}

module _ (game : Tree) where
  -- what follows is the process
  continuation_behind : (p : ℕ) (σ : Phrase) (Γ : Context) (h : Head) (a b : Tree) → continues h ≡ true → 0 < weight h → place_behind p (Node h a b) ≡ Some (second_place p h a) → second_standing (position_of σ) h a Γ ≡ behind_site h a b Γ
      → StandsAs game p σ Γ (Node h a b) → IsBehind game (p, behind_site h a b Γ)
  continuation_behind p σ Γ h a b c l f g s =
      let x = has_parts σ h a b s.phrase in
      ap (option_and_then (stands_at game)) (ap (option_and_then (place_behind p)) (here_tree game p σ Γ h a b l s) ∙ f)
      ∙ (body_stands game (second_place p h a) (second_standing (position_of σ) h a Γ) b (subst (λ ρ. StandsAs game (second_place p h a) ρ (second_standing (position_of σ) h a Γ) b) (continued_parts σ x.0.0 x.0.1 h c x.1) (second_stands game p σ x.0.0 x.0.1 Γ h a b x.1 s))
      ∙ ap Some g)

  -- the body of a branch
  body_behind : (p : ℕ) (σ : Phrase) (Γ : Context) (us b : Tree) → StandsAs game p σ Γ (Node Branch us b) → StandsAs game (second_place p Branch us) Guards (in_list Γ us) b → IsBehind game (p, behind_site Branch us b Γ)
  unfolding is_oracle_phrase
  body_behind p σ Γ us Empty s g = absurd (both_ways _ refl g.phrase)
  body_behind p σ Γ us (Node Cons cells (Node Cons c body)) s g =
      ap (option_and_then (stands_at game)) (ap (option_and_then (place_behind p)) (here_tree game p σ Γ Branch us (Node Cons cells (Node Cons c body)) (omega arith) s))
      ∙ (ap (stands_at game) (let q : ℕ = second_place p Branch us in let n : second_place (second_place q Cons cells) Cons c ≡ q + size cells + size c = omega arith in n)
      ∙ (guards_places game (second_place p Branch us) Γ us (Node Cons cells (Node Cons c body)) g).body)
  body_behind p σ Γ us (Node Cons cells Empty) s g = absurd (both_ways _ refl (phrase_parts Guards Cells Guarded Cons cells Empty refl g.phrase).1)
  body_behind p σ Γ us (Node Cons cells (Node h c body)) s g = absurd (both_ways _ refl (phrase_parts Guards Cells Guarded Cons cells (Node h c body) refl g.phrase).1)
  body_behind p σ Γ us (Node h cells t) s g = absurd (both_ways _ refl g.phrase)

  process_stands : (x p : ℕ) (σ : Phrase) (Γ : Context) (h : Head) (a b : Tree) → made_by h a (Variable x) ≡ true → StandsAs game p σ Γ (Node h a b) → IsBehind game (p, behind_site h a b Γ)
  process_stands x p σ Γ (In c) a b e s = continuation_behind p σ Γ (In c) a b refl (omega arith) refl refl s
  process_stands x p σ Γ (New y T) a b e s = continuation_behind p σ Γ (New y T) a b refl (omega arith) refl refl s
  process_stands x p σ Γ (Let y T) a b e s = continuation_behind p σ Γ (Let y T) a b refl (omega arith) refl refl s
  process_stands x p σ Γ (Key y) a b e s = continuation_behind p σ Γ (Key y) a b refl (omega arith) refl refl s
  process_stands x p σ Γ (Call y l) a b e s = continuation_behind p σ Γ (Call y l) a b refl (omega arith) refl refl s
  process_stands x p σ Γ Branch a b e s =
      let q = has_parts σ Branch a b s.phrase in
      body_behind p σ Γ a b s (subst (λ ρ. StandsAs game (second_place p Branch a) ρ (in_list Γ a) b) (arm_parts σ q.0 q.1) (second_stands game p σ q.0.0 q.0.1 Γ Branch a b q.1 s))
  process_stands x p σ Γ h a b e s = absurd (both_ways _ refl e)

  site_where : (x p : ℕ) (σ : Phrase) (Γ : Context) (h : Head) (a b : Tree) (c : Bool) → made_by h a (Variable x) ≡ c → StandsAs game p σ Γ (Node h a b) → AllByRecursion (IsBehind game) (cond c ((p, behind_site h a b Γ) ∷ []) [])
  site_where x p σ Γ h a b true e s = (process_stands x p σ Γ h a b e s, tt)
  site_where x p σ Γ h a b false e s = tt

  sites_behind : (x p : ℕ) (σ : Phrase) (Γ : Context) (t : Tree) → StandsAs game p σ Γ t → AllByRecursion (IsBehind game) (sites_in x (position_of σ) Γ p t)
  unfolding sites_in
  sites_behind x p σ Γ Empty s = tt
  sites_behind x p σ Γ (Node h a b) s =
      let q = has_parts σ h a b s.phrase in
      let v = placed σ q.0.0 q.0.1 h q.1 in
      AllByRecursion_append (IsBehind game) (cond (made_by h a (Variable x)) ((p, behind_site h a b Γ) ∷ []) []) _ (site_where x p σ Γ h a b (made_by h a (Variable x)) refl s)
      (AllByRecursion_append (IsBehind game) _ _
      (subst (λ w. AllByRecursion (IsBehind game) (sites_in x w (first_standing (position_of σ) h Γ) (first_place p h) a)) (sym v.0) (sites_behind x (first_place p h) q.0.0 (first_standing (position_of σ) h Γ) a (first_stands game p σ q.0.0 q.0.1 Γ h a b q.1 s)))
      (subst (λ w. AllByRecursion (IsBehind game) (sites_in x w (second_standing (position_of σ) h a Γ) (second_place p h a) b)) (sym v.1) (sites_behind x (second_place p h a) q.0.1 (second_standing (position_of σ) h a Γ) b (second_stands game p σ q.0.0 q.0.1 Γ h a b q.1 s))))

pub all_behind : (game : Tree) (x : ℕ) → is_oracle_phrase Inputs game ≡ true → AllByRecursion (IsBehind game) (sites_of game x)
all_behind game x f = sites_behind game x 0 Inputs nothing_known game (game_stands game f)

-- a definition and what stands below it lie in the game

subtree_fits : (t : Tree) (p : ℕ) (h : Head) (a b : Tree) → weight h ≡ 1 → subtree t p ≡ Some (Node h a b) → p + size (Node h a b) ≤ size t
unfolding size
subtree_fits Empty p h a b w e = absurd (none_some (Node h a b) (sym (subtree_empty Empty p refl) ∙ e))
subtree_fits (Node k c d) p h a b w e = go (lies_somewhere k c p) (subtree_fits c) (subtree_fits d)
  where
    go : (l : Lies) × LiesAt k c p l → ((q : ℕ) (h : Head) (a b : Tree) → weight h ≡ 1 → subtree c q ≡ Some (Node h a b) → q + size (Node h a b) ≤ size c) → ((q : ℕ) (h : Head) (a b : Tree) → weight h ≡ 1 → subtree d q ≡ Some (Node h a b) → q + size (Node h a b) ≤ size d)
        → p + size (Node h a b) ≤ size (Node k c d)
    go (Here, l) f g =
        let same : Node k c d ≡ Node h a b = Some_injective (Node k c d) (Node h a b) (sym (subtree_here (Node k c d) k c d p 0 refl l) ∙ e) in
        let s : size (Node k c d) ≡ size (Node h a b) = ap size same in
        let v : weight k ≡ weight h = ap weight_of same in
        omega (arith, l, s, v, w)
      where
        weight_of : Tree → ℕ
        weight_of Empty = 0
        weight_of (Node h a b) = weight h
    go (Within q, l) f g = let m = f q h a b w (sym (subtree_within (Node k c d) k c d p q refl l) ∙ e) in omega (arith, l.0, m)
    go (Behind q, l) f g = let m = g q h a b w (sym (subtree_behind (Node k c d) k c d p q refl l) ∙ e) in omega (arith, l, m)

defines_weight : (h : Head) → can_define h ≡ true → weight h ≡ 1
defines_weight (In c) e = refl
defines_weight (New x T) e = refl
defines_weight (Let x T) e = refl
defines_weight Branch e = refl
defines_weight (Key x) e = refl
defines_weight (Call x l) e = refl
defines_weight h e = absurd (both_ways _ refl e)

pub definition_fits : (t : Tree) (p : ℕ) (h : Head) (a b : Tree) → can_define h ≡ true → subtree t p ≡ Some (Node h a b) → p + size (Node h a b) ≤ size t
definition_fits t p h a b c e = subtree_fits t p h a b (defines_weight h c) e
