-- Nothing stands at a name that a phrase of the grammar binds.
use Rattle.std.proofs.Common.{◌≡◌, ℕ, Bool, true, false, ◌&&◌, List, [], ◌∷◌, Option, Some, refl}
use Rattle.std.proofs.lemmas.Bool.{and_from, both_ways}
use Rattle.std.specs.List.{AllByRecursion}
use Rattle.cv_syntax_trees.specs.declared.head.Head.{Head}
use Rattle.cv_syntax_trees.specs.declared.head.Head.TheVariants.{Binder, New}
use Rattle.cv_syntax_trees.specs.Tree.{Tree, Empty, Node, chain}
use Rattle.cv_scope_rules.specs.Phrases.{Binders, Body, Nil, Phrase, binds_none, head_binds_none, is_phrase, parts}
use Rattle.cv_parse_laws.specs.Shapes.{IsShaped}
use Rattle.cv_parse_laws.proofs.Shaping.{opened}
use Rattle.cv_inline_names_laws.specs.accepted.RightBodies.{is_empty}
use Rattle.cv_inline_names_laws.specs.covered.Covered.{names_stand_bare, stands_bare}
use Rattle.cv_context_laws.proofs.calls.Games.{no_row}
use Rattle.cv_context_files.specs.right_names.Bindings.{HasFreeNames}

row_first : (p q : Phrase × Phrase) → ◌≡◌ {A = Option (Phrase × Phrase)} (Some p) (Some q) → p.0 ≡ q.0
row_first p q e = cc

nil_empty : (τ : Phrase) (a : Tree) → Nil ≡ τ → is_phrase τ a ≡ true → is_empty a ≡ true
unfolding is_phrase
nil_empty Nil Empty e p = refl
nil_empty Nil (Node h a b) e p = absurd (both_ways false refl p)
nil_empty τ a e p = absurd (cc)

node_bare : (φ : Phrase) (h : Head) (a : Tree) (τ ρ : Phrase) → parts φ h ≡ Some (τ, ρ) → is_phrase τ a ≡ true → stands_bare h a ≡ true
node_bare Body (New x T) a τ ρ e p = nil_empty τ a (row_first (Nil, Body) (τ, ρ) e) p
node_bare φ (New x T) a τ ρ e p = no_row (τ, ρ) e
node_bare Binders (Binder x T) a τ ρ e p = nil_empty τ a (row_first (Nil, Binders) (τ, ρ) e) p
node_bare φ (Binder x T) a τ ρ e p = no_row (τ, ρ) e
node_bare φ h a τ ρ e p = refl

module _ {barred : ℕ → Bool} where
  phrase_bare : (φ : Phrase) (t : Tree) → IsShaped barred φ t → names_stand_bare t ≡ true
  unfolding names_stand_bare
  phrase_bare φ Empty w = refl
  phrase_bare φ (Node h a b) w =
      let o = opened φ h a b w in
      and_from (stands_bare h a) (names_stand_bare a && names_stand_bare b) (node_bare φ h a o.one o.two o.are o.first.phrase)
      (and_from (names_stand_bare a) (names_stand_bare b) (phrase_bare o.one a o.first) (phrase_bare o.two b o.second))

  pub phrase_free : (φ : Phrase) (t : Tree) → IsShaped barred φ t → HasFreeNames barred t
  phrase_free φ t w = record { bare = phrase_bare φ t w; free = w.free }

  -- trees are put together

  pub none : HasFreeNames barred Empty
  unfolding names_stand_bare binds_none
  none = record { bare = refl; free = refl }

  pub node : {h : Head} {a b : Tree} → stands_bare h a ≡ true → head_binds_none barred h ≡ true → HasFreeNames barred a → HasFreeNames barred b → HasFreeNames barred (Node h a b)
  unfolding names_stand_bare binds_none
  node {h = h} {a = a} {b = b} s n v w = record {
    bare = and_from (stands_bare h a) (names_stand_bare a && names_stand_bare b) s (and_from (names_stand_bare a) (names_stand_bare b) v.bare w.bare);
    free = and_from (head_binds_none barred h) (binds_none barred a && binds_none barred b) n (and_from (binds_none barred a) (binds_none barred b) v.free w.free);
  }

  pub chained : (l : List Tree) → AllByRecursion (HasFreeNames barred) l → HasFreeNames barred (chain l)
  chained [] w = none
  chained (t ∷ l) w = node refl refl w.0 (chained l w.1)
