-- What the bodies of an accepted equivalence call.
use Rattle.std.proofs.Common.{◌≡◌, ℕ, Bool, true, false, ◌||◌, List, [], ◌++◌, ◌⊎◌, inl, inr, refl, subst, eqb-true}
use Rattle.std.proofs.lemmas.Bool.{and_parts, both_ways}
use Rattle.cv_syntax_trees.specs.declared.head.Head.{Head}
use Rattle.cv_syntax_trees.specs.declared.head.Head.TheVariants.{Apply}
use Rattle.cv_syntax_trees.specs.Tree.{Tree, Empty, Node, second}
use Rattle.cv_meaning.specs.contexts.Groups.{Which, Left, Right}
use Rattle.cv_group_rules.specs.Symbols.{Symbols}
use Rattle.cv_group_rules.specs.Rules.{Around, Level, around, behind, bodies_call, calls, calls_here, each_function, functions_in, is_bound, key_in, names_bound, side_is_bound}
use Rattle.cv_group_rules.specs.Faults.{BoundNames, IsAccepted}

or_cases : (b c : Bool) → (b || c) ≡ true → (b ≡ true) ⊎ (c ≡ true)
or_cases true c e = inl refl
or_cases false c e = inr e

module _ (o : Around) (f : ℕ) where
  -- at a node
  node_calls : (ls : List Level) (h : Head) (a b : Tree) → names_bound o ls h a b ≡ true → calls_here h f ≡ true → o.callable f ≡ true
  node_calls ls (Apply g) a b n c = subst (λ x. o.callable x ≡ true) (eqb-true g f c) n
  node_calls ls h a b n c = absurd (both_ways _ refl c)

  body_calls : (ls : List Level) (t : Tree) → is_bound o ls t ≡ true → calls t f ≡ true → o.callable f ≡ true
  unfolding is_bound calls
  body_calls ls Empty k c = absurd (both_ways _ refl c)
  body_calls ls (Node h a b) k c =
      let here = and_parts (names_bound o ls h a b) _ k in
      let rest = and_parts (is_bound o ls a) _ here.1 in
      elim (or_cases (calls_here h f) _ c) [
        | inl i ↦ node_calls ls h a b here.0 i
        | inr i ↦ elim (or_cases (calls a f) (calls b f) i) [
          | inl j ↦ body_calls ls a rest.0 j
          | inr j ↦ body_calls (ls ++ behind h a b) b rest.1 j
        ]
      ]

module _ (symbols : Symbols) (key all : Tree) (f : ℕ) where
  side_calls : (fs : Tree) → each_function (λ g. is_bound (around symbols key all g) [] (second g)) fs ≡ true → bodies_call fs f ≡ true → symbols.function f ≡ true
  unfolding each_function bodies_call
  side_calls Empty k c = absurd (both_ways _ refl c)
  side_calls (Node h g more) k c =
      let parts = and_parts (is_bound (around symbols key all g) [] (second g)) _ k in
      elim (or_cases (calls (second g) f) (bodies_call more f) c) [
        | inl i ↦ body_calls (around symbols key all g) f [] (second g) parts.0 i
        | inr i ↦ side_calls more parts.1 i
      ]

pub accepted_calls : (symbols : Symbols) (t : Tree) (which : Which) (f : ℕ) → IsAccepted symbols t → bodies_call (functions_in which t) f ≡ true → symbols.function f ≡ true
accepted_calls symbols t which f a = go which
  where
    sides : (side_is_bound symbols (key_in Left t) (functions_in Left t) ≡ true) × (side_is_bound symbols (key_in Right t) (functions_in Right t) ≡ true)
    sides = and_parts (side_is_bound symbols (key_in Left t) (functions_in Left t)) _ (a.kept BoundNames)

    go : (which : Which) → bodies_call (functions_in which t) f ≡ true → symbols.function f ≡ true
    go Left = side_calls symbols (key_in Left t) (functions_in Left t) f (functions_in Left t) sides.0
    go Right = side_calls symbols (key_in Right t) (functions_in Right t) f (functions_in Right t) sides.1
