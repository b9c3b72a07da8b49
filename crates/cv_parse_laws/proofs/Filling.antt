-- Filling makes phrases of phrases, and binds nothing.
use Rattle.std.proofs.Common.{◌≡◌, ℕ, Bool, true, false, ◌==◌, if◌then◌else◌, List, [], ◌∷◌, map, take, Option, Some, None, refl, ap, sym, subst}
use Rattle.std.specs.List.{list_any}
use Rattle.cv_syntax_trees.specs.declared.head.Head.{Head}
use Rattle.cv_syntax_trees.specs.declared.head.Head.TheVariants.{In, Out, Leaf, Read, Cons}
use Rattle.cv_syntax_trees.specs.Tree.{Tree, Empty, Node, lone, chain, names}
use Rattle.cv_parse_grammar.specs.Filled.{bare, filled_at, now_below, on_channel, read_at, read_plainly}
use Rattle.cv_scope_rules.specs.Phrases.{Phrase, Nil, Inputs, Body, Pattern, Message, Indices, Binders, OneCell, Terms, Term, parts}
use Rattle.cv_parse_laws.specs.Shapes.{IsShaped}
use Rattle.cv_parse_laws.proofs.Shaping.{empty, named, nil, node, opened}

taken : (φ : Phrase) (c : ℕ) (q : Phrase × Phrase) → parts φ (In c) ≡ Some q → q.0 ≡ Pattern
taken Inputs c q e = cc
taken φ c q e = absurd (cc)

given : (φ : Phrase) (c : ℕ) (q : Phrase × Phrase) → parts φ (Out c) ≡ Some q → q.0 ≡ Message
given Body c q e = cc
given φ c q e = absurd (cc)

one_first : (o : Option (Phrase × Phrase)) (p q : Phrase × Phrase) → o ≡ Some p → o ≡ Some q → p.0 ≡ q.0
one_first o p q e i = let j : p ≡ q = cc in ap (λ r. r.0) j

-- such a phrase may be a name alone or a name with indices
abbrev MayRead : Phrase → ℕ → Type 0
MayRead φ x = (parts φ (Leaf x) ≡ Some (Nil, Nil)) × (parts φ (Read x) ≡ Some (Terms, Nil))

module _ {barred : ℕ → Bool} where
  -- a bare name

  leaves : (l : List ℕ) → IsShaped barred Terms (chain (map (λ i. lone (Leaf i)) l))
  leaves [] = empty refl
  leaves (i ∷ l) = node refl refl (node refl refl nil nil) (leaves l)

  at_indices : (φ : Phrase) (x : ℕ) → MayRead φ x → (l : List ℕ) → IsShaped barred φ (read_at x l)
  at_indices φ x e [] = node e.0 refl nil nil
  at_indices φ x e (i ∷ l) = node e.1 refl (leaves (i ∷ l)) nil

  plainly : (φ : Phrase) (x : ℕ) → MayRead φ x → (o : Option ℕ) (now : List ℕ) → IsShaped barred φ (read_plainly o now x)
  plainly φ x e None now = at_indices φ x e []
  plainly φ x e (Some k) now = at_indices φ x e (take k now)

  barely : (φ : Phrase) (x : ℕ) → MayRead φ x → (b : Bool) (o : Option ℕ) (now : List ℕ) → IsShaped barred φ (if b then lone (Leaf x) else read_plainly o now x)
  barely φ x e true o now = at_indices φ x e []
  barely φ x e false o now = plainly φ x e o now

  name_filled : (sites : ℕ → Option ℕ) (now : List ℕ) (φ : Phrase) (x : ℕ) (q : Phrase × Phrase) → parts φ (Leaf x) ≡ Some q → IsShaped barred φ (bare sites now x)
  name_filled sites now Term x q e = barely Term x (refl, refl) (list_any (λ i. i == x) now) (sites x) now
  name_filled sites now OneCell x q e = barely OneCell x (refl, refl) (list_any (λ i. i == x) now) (sites x) now
  name_filled sites now φ x q e = absurd (cc)

  -- a channel

  current : (φ ρ : Phrase) → parts φ Cons ≡ Some (Indices, ρ) → (now : List ℕ) (b : Tree) → IsShaped barred φ (Node Cons Empty b) → IsShaped barred φ (Node Cons (names now) b)
  current φ ρ e now b w =
      let o = opened φ Cons Empty b w in
      node o.are refl (subst (λ τ. IsShaped barred τ (names now)) (one_first (parts φ Cons) (Indices, ρ) (o.one, o.two) e o.are) (named now)) o.second

  channel_filled : (φ : Phrase) (h : Head) (now : List ℕ) (a : Tree) (q : Phrase × Phrase) → parts φ h ≡ Some q → IsShaped barred q.0 a → IsShaped barred q.0 (on_channel h now a)
  channel_filled φ (In c) now (Node Cons Empty b) q e w =
      let s = taken φ c q e in
      subst (λ τ. IsShaped barred τ (Node Cons (names now) b)) (sym s) (current Pattern Binders refl now b (subst (λ τ. IsShaped barred τ (Node Cons Empty b)) s w))
  channel_filled φ (Out c) now (Node Cons Empty b) q e w =
      let s = given φ c q e in
      subst (λ τ. IsShaped barred τ (Node Cons (names now) b)) (sym s) (current Message Terms refl now b (subst (λ τ. IsShaped barred τ (Node Cons Empty b)) s w))
  channel_filled φ h now a q e w = w

  pub filled_is : (sites : ℕ → Option ℕ) (now : List ℕ) (φ : Phrase) (t : Tree) → IsShaped barred φ t → IsShaped barred φ (filled_at sites now t)
  unfolding filled_at
  filled_is sites now φ Empty w = w
  filled_is sites now φ (Node (Leaf x) a b) w = let o = opened φ (Leaf x) a b w in name_filled sites now φ x (o.one, o.two) o.are
  filled_is sites now φ (Node h a b) w =
      let o = opened φ h a b w in
      node o.are o.binds (channel_filled φ h now (filled_at sites now a) (o.one, o.two) o.are (filled_is sites now o.one a o.first)) (filled_is sites (now_below h now) o.two b o.second)
