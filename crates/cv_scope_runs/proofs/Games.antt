-- What holds of the subtrees of a well-formed game where they stand.
use Rattle.std.proofs.Common.{◌≡◌, ℕ, Bool, true, false, cond, ◌||◌, not, ◌==◌, List, [], ◌⊎◌, inl, inr, Option, Some, None, is_some, refl, sym, ap, subst, eqb-true, eq-eqb}
use Rattle.std.proofs.lemmas.Bool.{both_ways, and_parts, not-true, or_left, or_right}
use Rattle.cv_syntax_trees.specs.declared.head.Head.{Head}
use Rattle.cv_syntax_trees.specs.declared.head.Head.TheVariants.{Repl, In, New, Let, Branch, Binder, Key, Call}
use Rattle.cv_syntax_trees.specs.Tree.{Tree, Node, second}
use Rattle.cv_meaning.specs.Interpretation.{Setting}
use Rattle.cv_syntax_trees.specs.declared.sites.sort.Sort.{Sort}
use Rattle.cv_syntax_trees.specs.declared.sites.sort.Sort.TheVariants.{OfType, BelowParameter}
use Rattle.cv_syntax_trees.specs.sites.Sites.{first_of, bound_sort, site_here, at_parameters, parameters_below, first_site}
use Rattle.cv_scope_rules.specs.declared.position.Position.TheVariants.{Anywhere}
use Rattle.cv_scope_rules.specs.Context.{Context, nothing_known}
use Rattle.cv_scope_rules.specs.Sites.{Variable}
use Rattle.cv_scope_rules.specs.Scope.{is_untyped_here, is_untyped_in, is_variable}
use Rattle.cv_scope_rules.specs.Branches.{IsApartByBranches}
use Rattle.cv_scope_rules.specs.Phrases.{Phrase, Inputs, oracle_parts, both_are, is_oracle_phrase, head_binds_none, binds_none}
use Rattle.cv_scope_rules.specs.Made.{is_bound, made_by}
use Rattle.cv_scope_rules.proofs.Unbound.{no_variable}
use Rattle.cv_scope_runs.proofs.Asked.{Asked}
use Rattle.cv_scope_runs.proofs.Rows.{position_of, placed}
use Rattle.cv_scope_runs.proofs.Contexts.{NamesApart, game_names, NewIndex}
use Rattle.cv_scope_runs.proofs.Standing.{Stands, root, in_first, in_second, first_below, second_below}

-- a variable that has a site in a tree

abbrev pub HasSite : ℕ → Tree → Type 0
HasSite x b = ((ps : List ℕ) → is_some (first_site x ps b) ≡ true) ⊎ (is_untyped_in x b ≡ true)

pub first_some : {A : Type 0} (o q : Option A) → is_some o ≡ true → is_some (first_of o q) ≡ true
first_some (Some a) q e = refl
first_some None q e = absurd (both_ways _ refl e)

pub second_some : {A : Type 0} (o q : Option A) → is_some q ≡ true → is_some (first_of o q) ≡ true
second_some (Some a) q e = refl
second_some None q e = e

site_first : (x : ℕ) (h : Head) (a b : Tree) → HasSite x a → HasSite x (Node h a b)
unfolding first_site is_untyped_in
site_first x h a b (inl s) = inl (λ ps. second_some (at_parameters ps (site_here x h a)) _ (first_some (first_site x ps a) _ (s ps)))
site_first x h a b (inr e) = inr (or_right (is_untyped_here x h) _ (or_left (is_untyped_in x a) _ e))

site_second : (x : ℕ) (h : Head) (a b : Tree) → HasSite x b → HasSite x (Node h a b)
unfolding first_site is_untyped_in
site_second x h a b (inl s) = inl (λ ps. second_some (at_parameters ps (site_here x h a)) _ (second_some (first_site x ps a) _ (s (parameters_below h ps))))
site_second x h a b (inr e) = inr (or_right (is_untyped_here x h) _ (or_right (is_untyped_in x a) _ e))

flipped : (x y : ℕ) → (y == x) ≡ true → (x == y) ≡ true
flipped x y e = eq-eqb x y (sym (eqb-true y x e))

one_sort : (x y : ℕ) (S : Sort) → (y == x) ≡ true → is_some (cond (x == y) (Some S) None) ≡ true
one_sort x y S e = ap (λ b. is_some (cond b (Some S) None)) (flipped x y e)

bound_some : (sort : ℕ → Sort) (bs : Tree) (y : ℕ) → is_bound bs y ≡ true → is_some (bound_sort sort y bs) ≡ true
unfolding is_bound bound_sort
bound_some sort (Node (Binder x T) a b) y e = go (x == y) refl e (bound_some sort b y)
  where
    go : (c : Bool) → (x == y) ≡ c → ((y == x) || is_bound b y) ≡ true → (is_bound b y ≡ true → is_some (bound_sort sort y b) ≡ true) → is_some (cond c (Some (sort T)) (bound_sort sort y b)) ≡ true
    go true k z f = refl
    go false k z f = f (rest (y == x) refl z)
      where
        rest : (d : Bool) → (y == x) ≡ d → (d || is_bound b y) ≡ true → is_bound b y ≡ true
        rest true i z = absurd (both_ways _ k (flipped x y i))
        rest false i z = z
bound_some sort bs y e = absurd (both_ways _ refl e)

site_here_made : (h : Head) (a : Tree) (y : ℕ) → made_by h a (Variable y) ≡ true → (is_some (site_here y h a) ≡ true) ⊎ (is_untyped_here y h ≡ true)
site_here_made (New x T) a y e = inl (one_sort x y (OfType T) e)
site_here_made (Let x T) a y e = inl (one_sort x y (OfType T) e)
site_here_made (Key x) a y e = inr (flipped x y e)
site_here_made (Call x l) a y e = inr (flipped x y e)
site_here_made (In c) a y e = inl (bound_some OfType (second a) y e)
site_here_made Branch a y e = inl (bound_some BelowParameter a y e)
site_here_made h a y e = absurd (both_ways _ refl e)

pub with_parameters : (ps : List ℕ) (o : Option Sort) → is_some o ≡ true → is_some (at_parameters ps o) ≡ true
with_parameters ps None e = absurd (both_ways _ refl e)
with_parameters ps (Some S) e = refl

site_made : (x : ℕ) (h : Head) (a b : Tree) → made_by h a (Variable x) ≡ true → HasSite x (Node h a b)
unfolding first_site is_untyped_in
site_made x h a b e = go (site_here_made h a x e)
  where
    go : (is_some (site_here x h a) ≡ true) ⊎ (is_untyped_here x h ≡ true) → HasSite x (Node h a b)
    go (inl s) = inl (λ ps. first_some (at_parameters ps (site_here x h a)) _ (with_parameters ps (site_here x h a) s))
    go (inr u) = inr (or_left (is_untyped_here x h) _ u)

pub variable_site : (x : ℕ) (b : Tree) → HasSite x b → is_variable b x ≡ true
variable_site x b (inl s) = or_left (is_some (first_site x [] b)) _ (s [])
variable_site x b (inr e) = or_right (is_some (first_site x [] b)) _ e

-- the well-formed game or context, as the proofs take it
pub record Game (g : Setting) (variable : ℕ → Bool) (game : Tree) : Type 0 where
  pub asked : Asked (game_names g variable) Anywhere nothing_known game
  pub phrase : is_oracle_phrase Inputs game ≡ true
  pub branches : IsApartByBranches game
  pub constants : binds_none g.is_constant game ≡ true
  pub apart : NamesApart g variable
  pub variables : (x : ℕ) → HasSite x game → variable x ≡ true

pub phrase_parts : (σ τ ρ : Phrase) (h : Head) (a b : Tree) → oracle_parts σ h ≡ Some (τ, ρ) → is_oracle_phrase σ (Node h a b) ≡ true → (is_oracle_phrase τ a ≡ true) × (is_oracle_phrase ρ b ≡ true)
unfolding is_oracle_phrase
phrase_parts σ τ ρ h a b e f = and_parts (is_oracle_phrase τ a) _ (subst (λ o. both_are o (λ τ. is_oracle_phrase τ a) (λ ρ. is_oracle_phrase ρ b) ≡ true) e f)

pub has_parts : (σ : Phrase) (h : Head) (a b : Tree) → is_oracle_phrase σ (Node h a b) ≡ true → (q : Phrase × Phrase) × (oracle_parts σ h ≡ Some q)
unfolding is_oracle_phrase
has_parts σ h a b f = go (oracle_parts σ h) refl f
  where
    go : (o : Option (Phrase × Phrase)) → oracle_parts σ h ≡ o → both_are o (λ τ. is_oracle_phrase τ a) (λ ρ. is_oracle_phrase ρ b) ≡ true → (q : Phrase × Phrase) × (oracle_parts σ h ≡ Some q)
    go None e z = absurd (both_ways _ refl z)
    go (Some q) e z = (q, e)

module _ (g : Setting) (variable : ℕ → Bool) (game : Tree) (fine : Game g variable game) where
  pub stands_phrase : {p : ℕ} {σ : Phrase} {Γ : Context} {b : Tree} → Stands game p σ Γ b → is_oracle_phrase σ b ≡ true
  stands_phrase root = fine.phrase
  stands_phrase (in_first {σ = σ} {τ = τ} {ρ = ρ} {h = h} {a = a} {b = b} e st) = (phrase_parts σ τ ρ h a b e (stands_phrase st)).0
  stands_phrase (in_second {σ = σ} {τ = τ} {ρ = ρ} {h = h} {a = a} {b = b} e st) = (phrase_parts σ τ ρ h a b e (stands_phrase st)).1

  pub stands_asked : {p : ℕ} {σ : Phrase} {Γ : Context} {b : Tree} → Stands game p σ Γ b → Asked (game_names g variable) (position_of σ) Γ b
  stands_asked root = fine.asked
  stands_asked (in_first {σ = σ} {τ = τ} {ρ = ρ} {Γ = Γ} {h = h} {a = a} {b = b} e st) = subst (λ w. Asked (game_names g variable) w (first_below σ h Γ) a) (placed σ τ ρ h e).0 (stands_asked st).1
  stands_asked (in_second {σ = σ} {τ = τ} {ρ = ρ} {Γ = Γ} {h = h} {a = a} {b = b} e st) = subst (λ w. Asked (game_names g variable) w (second_below σ h a Γ) b) (placed σ τ ρ h e).1 (stands_asked st).2

  stands_constants : {p : ℕ} {σ : Phrase} {Γ : Context} {b : Tree} → Stands game p σ Γ b → binds_none g.is_constant b ≡ true
  unfolding binds_none
  stands_constants root = fine.constants
  stands_constants (in_first {h = h} {a = a} e st) = (and_parts (binds_none g.is_constant a) _ (and_parts (head_binds_none g.is_constant h) _ (stands_constants st)).1).0
  stands_constants (in_second {h = h} {a = a} e st) = (and_parts (binds_none g.is_constant a) _ (and_parts (head_binds_none g.is_constant h) _ (stands_constants st)).1).1

  stands_sites : {p : ℕ} {σ : Phrase} {Γ : Context} {b : Tree} → Stands game p σ Γ b → (x : ℕ) → HasSite x b → variable x ≡ true
  stands_sites root x s = fine.variables x s
  stands_sites (in_first {h = h} {a = a} {b = b} e st) x s = stands_sites st x (site_first x h a b s)
  stands_sites (in_second {h = h} {a = a} {b = b} e st) x s = stands_sites st x (site_second x h a b s)

  -- what a node makes is a variable of the game
  pub stands_variable : {p : ℕ} {σ : Phrase} {Γ : Context} {h : Head} {a b : Tree} → Stands game p σ Γ (Node h a b) → (x : ℕ) → made_by h a (Variable x) ≡ true → variable x ≡ true
  stands_variable {h = h} {a = a} {b = b} st x e = stands_sites st x (site_made x h a b e)

  pub new_index : {p : ℕ} {σ : Phrase} {Γ : Context} {i n : ℕ} {a b : Tree} → Stands game p σ Γ (Node (Repl i n) a b) → NewIndex g.is_constant variable Γ.replications i
  unfolding binds_none
  new_index {i = i} st =
      let r = (stands_asked st).0.index in
      record { not_above = r.0; no_variable = r.1; no_constant = not-true _ (and_parts (not (g.is_constant i)) _ (stands_constants st)).0 }
