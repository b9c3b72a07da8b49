-- How large a body is with terms for index variables: each term is a cell that is known, or an index.
use Rattle.std.proofs.Common.{◌≡◌, ℕ, ◌+◌, ◌-◌, ◌<◌, ◌≤◌, ◌||◌, inl, inr, Bool, true, false, cond, List, [], ◌∷◌, length, nat_lt, Option, Some, refl, sym, ap, subst, arith}
use Rattle.std.proofs.lemmas.Bool.{both_ways, or_cases}
use Rattle.std.specs.List.{AllByRecursion, list_any}
use Rattle.std.specs.Prelude.{IfSome}
use Rattle.cv_syntax_trees.proofs.lists.Each.{AllByRecursion_append}
use Rattle.cv_syntax_trees.specs.declared.head.Head.{Head}
use Rattle.cv_syntax_trees.specs.declared.head.Head.TheVariants.{Binder, Branch, Call, Cons, In, Key, Let, New}
use Rattle.cv_syntax_trees.specs.Head.{weight}
use Rattle.cv_syntax_trees.specs.Tree.{Tree, Empty, Node, same_tree, second, size}
use Rattle.cv_syntax_trees.proofs.Equality.{same_tree_exact}
use Rattle.cv_scope_rules.specs.declared.position.Position.{Position}
use Rattle.cv_scope_rules.specs.declared.position.Position.TheVariants as position
use Rattle.cv_scope_rules.specs.declared.position.Position.TheVariants.{Cells, Guarded, Guards}
use Rattle.cv_scope_rules.specs.Context.{Context, cell_of, cells_of, context_at, first_context, first_position, index_terms, items, known_at, nothing_known, second_context, second_position}
use Rattle.cv_scope_rules.specs.Tests.{is_in_reach}
use Rattle.cv_scope_rules.proofs.Apart.{first_replications, second_replications}
use Rattle.cv_rule_pick.specs.Reach.{given_cells, own_given}
use Rattle.cv_rule_pick.proofs.Reached.{below_length, second_cells, second_own}

-- cells

terms_size : (rs : List (ℕ × ℕ)) → size (index_terms rs) ≡ length rs
unfolding size
terms_size [] = refl
terms_size (r ∷ rs) = omega (arith, terms_size rs)

pub cell_size : (rs : List (ℕ × ℕ)) (x : ℕ) → size (cell_of rs x) ≡ 1 + length rs
unfolding size
cell_size [] x = refl
cell_size (r ∷ rs) x = omega (arith, terms_size (r ∷ rs))

abbrev AreSmall : ℕ → List Tree → Type 0
AreSmall n ts = AllByRecursion (λ t. size t ≤ n) ts

own_small : (n : ℕ) (rs : List (ℕ × ℕ)) (bs : Tree) → 1 + length rs ≤ n → AreSmall n (cells_of rs bs)
own_small n rs (Node (Binder x T) a b) l = (omega (arith, l, cell_size rs x), own_small n rs b l)
own_small n rs bs l = tt

items_small : (n : ℕ) (t : Tree) → size t ≤ n → AreSmall n (items t)
unfolding size
items_small n Empty l = tt
items_small n (Node h a b) l = (omega arith, items_small n b (omega arith))

-- what a node leaves as it is for its first child

first_keeps : (w : Position) (h : Head) (Γ : Context) → ((first_context w h Γ).cells ≡ Γ.cells) × ((first_context w h Γ).own ≡ Γ.own)
first_keeps position.Bodies Cons Γ = (refl, refl)
first_keeps position.ElseBody Cons Γ = (refl, refl)
first_keeps w Cons Γ = (refl, refl)
first_keeps w h Γ = (refl, refl)

-- cells that are known are small

module _ (n : ℕ) where
  record Fits (Γ : Context) (t : Tree) : Type 0 where
    room : length Γ.replications + size t < n
    cells : AreSmall n Γ.cells
    own : AreSmall n Γ.own

  abbrev AreKnown : Option Context → Type 0
  AreKnown o = IfSome o (λ (Γ : Context). AreSmall n Γ.cells × AreSmall n Γ.own)

  first_fits : (w : Position) (h : Head) (Γ : Context) (a b : Tree) → Fits Γ (Node h a b) → Fits (first_context w h Γ) a
  unfolding size
  first_fits w h Γ a b f =
      let k = first_keeps w h Γ in
      record {
        room = omega (arith, f.room, ap length (first_replications w h Γ));
        cells = subst (AreSmall n) (sym k.0) f.cells;
        own = subst (AreSmall n) (sym k.1) f.own;
      }

  given_small : (w : Position) (h : Head) (Γ : Context) (a b : Tree) → Fits Γ (Node h a b) → AreSmall n (given_cells w h a Γ)
  unfolding size
  given_small Guards Cons Γ a b f = items_small n a (omega (arith, f.room))
  given_small Guarded Cons Γ a b f = f.own
  given_small Cells Cons Γ a b f = (omega (arith, f.room), tt)
  given_small w Cons Γ a b f = tt
  given_small w (In c) Γ a b f = own_small n Γ.replications (second a) (omega (arith, f.room))
  given_small w (New x T) Γ a b f = (omega (arith, f.room, cell_size Γ.replications x), tt)
  given_small w (Let x T) Γ a b f = (omega (arith, f.room, cell_size Γ.replications x), tt)
  given_small w (Key x) Γ a b f = (omega (arith, f.room, cell_size Γ.replications x), tt)
  given_small w (Call x l) Γ a b f = (omega (arith, f.room, cell_size Γ.replications x), tt)
  given_small w h Γ a b f = tt

  left_small : (w : Position) (h : Head) (Γ : Context) (a b : Tree) → Fits Γ (Node h a b) → AreSmall n (own_given w h a Γ)
  unfolding size
  left_small Guarded Cons Γ a b f = tt
  left_small w Cons Γ a b f = f.own
  left_small w Branch Γ a b f = AllByRecursion_append (λ t. size t ≤ n) Γ.own (cells_of Γ.replications a) f.own (own_small n Γ.replications a (omega (arith, f.room)))
  left_small w h Γ a b f = f.own

  second_fits : (w : Position) (h : Head) (Γ : Context) (a b : Tree) → Fits Γ (Node h a b) → Fits (second_context w h a Γ) b
  unfolding size
  second_fits w h Γ a b f = record {
    room = omega (arith, f.room, ap length (second_replications w h a Γ), below_length h Γ.replications);
    cells = subst (AreSmall n) (sym (second_cells w h a Γ)) (AllByRecursion_append (λ t. size t ≤ n) Γ.cells (given_cells w h a Γ) f.cells (given_small w h Γ a b f));
    own = subst (AreSmall n) (sym (second_own w h a Γ)) (left_small w h Γ a b f);
  }

  known_small : (w : Position) (Γ : Context) (t : Tree) (p : ℕ) → Fits Γ t → AreKnown (context_at w Γ t p)
  unfolding context_at
  known_small w Γ Empty p f = tt
  known_small w Γ (Node h a b) p f =
      go (nat_lt p (weight h)) (nat_lt p (weight h + size a)) _ _
      (known_small (first_position w h) (first_context w h Γ) a (p - weight h) (first_fits w h Γ a b f))
      (known_small (second_position w h) (second_context w h a Γ) b (p - (weight h + size a)) (second_fits w h Γ a b f))
    where
      go : (u v : Bool) (x y : Option Context) → AreKnown x → AreKnown y → AreKnown (cond u (Some Γ) (cond v x y))
      go true v x y d e = (f.cells, f.own)
      go false true x y d e = d
      go false false x y d e = e

  one_small : (t : Tree) (cs : List Tree) → AreSmall n cs → list_any (same_tree t) cs ≡ true → size t ≤ n
  one_small t [] s e = absurd (both_ways false refl e)
  one_small t (c ∷ cs) s e = go (same_tree t c) refl e (one_small t cs s.1)
    where
      go : (v : Bool) → same_tree t c ≡ v → (v || list_any (same_tree t) cs) ≡ true → (list_any (same_tree t) cs ≡ true → size t ≤ n) → size t ≤ n
      go true f e k = subst (λ u. size u ≤ n) (sym (same_tree_exact t c f)) s.0
      go false f e k = k e

  pub reached_small : (game : Tree) (p : ℕ) (Γ : Context) (t : Tree) → size game < n → known_at game p ≡ Some Γ → is_in_reach Γ t ≡ true → size t ≤ n
  reached_small game p Γ t l e r =
      let k : AreSmall n Γ.cells × AreSmall n Γ.own = subst AreKnown e (known_small position.Anywhere nothing_known game p (record { room = omega (arith, l); cells = tt; own = tt })) in
      elim (or_cases (list_any (same_tree t) Γ.cells) _ r) [ inl i ↦ one_small t Γ.cells k.0 i | inr i ↦ one_small t Γ.own k.1 i ]
