-- The parts of a typed game: what the game's rules say of a phrase that stands below replications, they say of its children.
use Rattle.std.proofs.Common.{◌≡◌, ℕ, Bool, true, List, [], Option, Some, None, refl, sym, ap, subst, ◌∙◌, inr}
use Rattle.std.specs.List.{AllByRecursion}
use Rattle.std.proofs.lemmas.Bool.{and_parts}
use Rattle.cv_syntax_trees.specs.declared.head.Head.{Head}
use Rattle.cv_syntax_trees.specs.declared.head.Head.TheVariants.{Stop, Yield, Par, Repl, In, Out, Event, New, Let, If, Find, Branch, Leaf, Read, Apply, Eq, And, Or, Not, Yes, No, Cons, Binder, Name, Key, Call}
use Rattle.cv_syntax_trees.specs.Tree.{Tree, Node, first_place}
use Rattle.cv_syntax_trees.specs.sites.Sites.{Variable, first_site}
use Rattle.cv_syntax_trees.proofs.lists.Each.{AllByRecursion_left, AllByRecursion_right}
use Rattle.cv_syntax_trees.proofs.lists.Options.{none_some, some_injective}
use Rattle.cv_syntax.specs.faults.Walk.{IsObeyed}
use Rattle.cv_meaning.specs.Interpretation.{is_constant_of}
use Rattle.cv_scope_rules.specs.Context.{first_position, replications_below, second_position}
use Rattle.cv_scope_rules.specs.Phrases.{Phrase, Inputs, Body, Then, Else, Branches, Arm, Guards, Guarded, Pattern, Message, Indices, Binders, Cells, OneCell, Terms, Term, binds_none, head_binds_none, is_phrase, oracle_parts, parts}
use Rattle.cv_scope_rules.specs.Scope.{IsScopedAt, names_of}
use Rattle.cv_scope_rules.specs.Sites.{sites_from, sites_here}
use Rattle.cv_scope_rules.specs.Standing.{Standing, at_root, first_standing, second_standing}
use Rattle.cv_scope_rules.specs.declared.typing.form.Form.TheVariants.{InProcess}
use Rattle.cv_scope_rules.specs.typing.Parts.{nothing_above}
use Rattle.cv_scope_rules.specs.typing.Typing.{IsTyped}
use Rattle.cv_scope_rules.specs.typing.Wants.{Sent, Want, wants}
use Rattle.cv_scope_rules.specs.typing.Wants as want
use Rattle.cv_scope_rules.proofs.Apart.{first_replications, second_replications}
use Rattle.cv_scope_runs.proofs.Rows.{placed, position_of}
use Rattle.cv_typing_runs.specs.Games.{are_known, are_named, has_site, is_known, is_named}
use Rattle.cv_typing_runs.proofs.Games.{first_nothing}
use Rattle.cv_typing_runs.proofs.SameSites.{Agrees, phrase_open, sites_agree}
use Rattle.cv_scene.specs.Scenes.{Scene}
use Rattle.cv_scene.specs.Terms.{above_under, signature_in}
use Rattle.cv_settling_laws.specs.Games.{IsTypedScene}
use Rattle.cv_settling_laws.proofs.Indices.{above_last}

-- positions

oracle_same : (σ : Phrase) (h : Head) (q : Phrase × Phrase) → parts σ h ≡ Some q → oracle_parts σ h ≡ Some q
oracle_same Body (Key x) q e = absurd (none_some q e)
oracle_same Body (Call x l) q e = absurd (none_some q e)
oracle_same σ h q e = e

pub positions : (σ : Phrase) (h : Head) (q : Phrase × Phrase) → parts σ h ≡ Some q → (first_position (position_of σ) h ≡ position_of q.0) × (second_position (position_of σ) h ≡ position_of q.1)
positions σ h q e = placed σ q.0 q.1 h (oracle_same σ h q e)

-- types

-- what is asked of a phrase of a game; of a term, that it is typed somewhere
abbrev pub IsTypedAs : Scene → List (ℕ × ℕ) → Phrase → Tree → Type 0
IsTypedAs s rs Inputs t = IsTyped (signature_in s) (above_under rs) (want.Run InProcess) t
IsTypedAs s rs Body t = IsTyped (signature_in s) (above_under rs) (want.Run InProcess) t
IsTypedAs s rs Then t = IsTyped (signature_in s) (above_under rs) (want.Run InProcess) t
IsTypedAs s rs Else t = IsTyped (signature_in s) (above_under rs) (want.Run InProcess) t
IsTypedAs s rs Branches t = IsTyped (signature_in s) (above_under rs) (want.Branches InProcess) t
IsTypedAs s rs Arm t = IsTyped (signature_in s) (above_under rs) (want.Branches InProcess) t
IsTypedAs s rs Guards t = IsTyped (signature_in s) (above_under rs) (want.Guarded InProcess) t
IsTypedAs s rs Guarded t = IsTyped (signature_in s) (above_under rs) (want.Tested InProcess) t
IsTypedAs s rs Message t = IsTyped (signature_in s) (above_under rs) Sent t
IsTypedAs s rs Cells t = (w : Want) × IsTyped (signature_in s) (above_under rs) w t
IsTypedAs s rs OneCell t = (w : Want) × IsTyped (signature_in s) (above_under rs) w t
IsTypedAs s rs Terms t = (w : Want) × IsTyped (signature_in s) (above_under rs) w t
IsTypedAs s rs Term t = (w : Want) × IsTyped (signature_in s) (above_under rs) w t
IsTypedAs s rs σ t = Unit {0}

abbrev TypedBelow : Scene → List (ℕ × ℕ) → Phrase → Head → (a b : Tree) → Option (Phrase × Phrase) → Type 0
TypedBelow s rs σ h a b None = Unit {0}
TypedBelow s rs σ h a b (Some q) = IsTypedAs s rs σ (Node h a b) → IsTypedAs s rs q.0 a × IsTypedAs s (replications_below h rs) q.1 b

typed_below : (s : Scene) (rs : List (ℕ × ℕ)) (σ : Phrase) (h : Head) (a b : Tree) → TypedBelow s rs σ h a b (parts σ h)
unfolding IsObeyed
typed_below s rs Inputs Stop a b = λ t. (tt, tt)
typed_below s rs Inputs Par a b = λ t. (t.1, t.2)
typed_below s rs Inputs (Repl i n) a b = λ t. (tt, subst (λ above. IsTyped (signature_in s) above (want.Run InProcess) b) (sym (above_last rs nothing_above i n)) t.2)
typed_below s rs Inputs (In c) a b = λ t. (tt, t.2)
typed_below s rs Body Yield a b = λ t. (tt, tt)
typed_below s rs Body (Out c) a b = λ t. (t.1, t.2)
typed_below s rs Body (New x T) a b = λ t. (tt, t.2)
typed_below s rs Body (Let x T) a b = λ t. ((want.Message T, t.1), t.2)
typed_below s rs Body (Event v) a b = λ t. (((wants (signature_in s) (above_under rs) (want.Run InProcess) (Event v) a).0, t.1), t.2)
typed_below s rs Body If a b = λ t. (((wants (signature_in s) (above_under rs) (want.Run InProcess) If a).0, t.1), t.2)
typed_below s rs Body (Find l) a b = λ t. (t.1, t.2)
typed_below s rs Then Cons a b = λ t. (t.1, t.2)
typed_below s rs Else Cons a b = λ t. (t.1, tt)
typed_below s rs Branches Cons a b = λ t. (t.1, t.2)
typed_below s rs Arm Branch a b = λ t. (tt, t.2)
typed_below s rs Guards Cons a b = λ t. ((want.EachTerm, t.1), t.2)
typed_below s rs Guarded Cons a b = λ t. (((wants (signature_in s) (above_under rs) (want.Tested InProcess) Cons a).0, t.1), t.2)
typed_below s rs Pattern Cons a b = λ t. (tt, tt)
typed_below s rs Message Cons a b = λ t. (tt, (want.AllMessages, t.2))
typed_below s rs Indices (Name i) a b = λ t. (tt, tt)
typed_below s rs Binders (Binder x T) a b = λ t. (tt, tt)
typed_below s rs Cells Cons a b = λ t. (((wants (signature_in s) (above_under rs) t.0 Cons a).0, t.1.1), ((wants (signature_in s) (above_under rs) t.0 Cons a).1, t.1.2))
typed_below s rs OneCell (Leaf x) a b = λ t. (tt, tt)
typed_below s rs OneCell (Read x) a b = λ t. (((wants (signature_in s) (above_under rs) t.0 (Read x) a).0, t.1.1), tt)
typed_below s rs Terms Cons a b = λ t. (((wants (signature_in s) (above_under rs) t.0 Cons a).0, t.1.1), ((wants (signature_in s) (above_under rs) t.0 Cons a).1, t.1.2))
typed_below s rs Term (Leaf x) a b = λ t. (tt, tt)
typed_below s rs Term (Read x) a b = λ t. (((wants (signature_in s) (above_under rs) t.0 (Read x) a).0, t.1.1), tt)
typed_below s rs Term (Apply f) a b = λ t. (((wants (signature_in s) (above_under rs) t.0 (Apply f) a).0, t.1.1), tt)
typed_below s rs Term Eq a b = λ t. (((wants (signature_in s) (above_under rs) t.0 Eq a).0, t.1.1), ((wants (signature_in s) (above_under rs) t.0 Eq a).1, t.1.2))
typed_below s rs Term And a b = λ t. (((wants (signature_in s) (above_under rs) t.0 And a).0, t.1.1), ((wants (signature_in s) (above_under rs) t.0 And a).1, t.1.2))
typed_below s rs Term Or a b = λ t. (((wants (signature_in s) (above_under rs) t.0 Or a).0, t.1.1), ((wants (signature_in s) (above_under rs) t.0 Or a).1, t.1.2))
typed_below s rs Term Not a b = λ t. (((wants (signature_in s) (above_under rs) t.0 Not a).0, t.1.1), tt)
typed_below s rs Term Yes a b = λ t. (tt, tt)
typed_below s rs Term No a b = λ t. (tt, tt)
typed_below s rs σ h a b = tt

-- a phrase of the game that stands below replications
pub record IsPart (s : Scene) (σ : Phrase) (rs : List (ℕ × ℕ)) (t : Tree) : Type 0 where
  pub phrase : is_phrase σ t ≡ true
  pub known : are_known s.declarations (has_site s.game) rs t ≡ true
  pub named : are_named s.declarations (has_site s.game) (position_of σ) t ≡ true
  pub typed : IsTypedAs s rs σ t
  pub constants : binds_none (is_constant_of s.declarations) t ≡ true
  pub standing : Standing
  pub replications : standing.known.replications ≡ rs
  pub scoped : IsScopedAt (names_of s.declarations s.game) standing t
  pub sites : AllByRecursion (Agrees (λ x. first_site x [] s.game)) (sites_from rs standing.place t)

pub game_part : (s : Scene) → IsTypedScene s → IsPart s Inputs [] s.game
game_part s g = record {
  phrase = g.formed.phrase;
  known = g.known;
  named = g.named;
  typed = g.typed;
  constants = g.formed.constants;
  standing = at_root;
  replications = refl;
  scoped = g.formed.scoped;
  sites = sites_agree (λ x. first_site x [] s.game) (names_of s.declarations s.game) Inputs at_root [] s.game refl g.formed.phrase g.formed.scoped tt (λ x. inr (None, first_nothing (first_site x [] s.game)));
}

-- the children of a node

module _ (s : Scene) (σ : Phrase) (rs : List (ℕ × ℕ)) (h : Head) (a b : Tree) (k : IsPart s σ rs (Node h a b)) (q : Phrase × Phrase) (e : parts σ h ≡ Some q) where
  abbrev V : ℕ → Bool
  V x = has_site s.game x

  abbrev F : ℕ → Option Variable
  F x = first_site x [] s.game

  below : IsTypedAs s rs q.0 a × IsTypedAs s (replications_below h rs) q.1 b
  below = subst (TypedBelow s rs σ h a b) e (typed_below s rs σ h a b) k.typed

  children : (is_phrase q.0 a ≡ true) × (is_phrase q.1 b ≡ true)
  children =
      let o = phrase_open σ h a b k.phrase in
      let same : o.0 ≡ q = some_injective (sym o.1 ∙ e) in
      subst (λ (p : Phrase × Phrase). (is_phrase p.0 a ≡ true) × (is_phrase p.1 b ≡ true)) same (o.2, o.3)

  pub first_part : IsPart s q.0 rs a
  unfolding are_known are_named binds_none IsObeyed sites_from
  first_part = record {
    phrase = children.0;
    known = (and_parts (are_known s.declarations V rs a) _ (and_parts (is_known s.declarations V rs h) _ k.known).1).0;
    named = subst (λ w. are_named s.declarations V w a ≡ true) (positions σ h q e).0 (and_parts (are_named s.declarations V (first_position (position_of σ) h) a) _ (and_parts (is_named s.declarations V (position_of σ) h a) _ k.named).1).0;
    typed = below.0;
    constants = (and_parts (binds_none (is_constant_of s.declarations) a) _ (and_parts (head_binds_none (is_constant_of s.declarations) h) _ k.constants).1).0;
    standing = first_standing k.standing h a;
    replications = first_replications k.standing.position h k.standing.known ∙ k.replications;
    scoped = k.scoped.1;
    sites = AllByRecursion_left (Agrees F) (sites_from rs (first_place k.standing.place h) a) _ (AllByRecursion_right (Agrees F) (sites_here rs k.standing.place h a) _ k.sites);
  }

  pub second_part : IsPart s q.1 (replications_below h rs) b
  unfolding are_known are_named binds_none IsObeyed sites_from
  second_part = record {
    phrase = children.1;
    known = (and_parts (are_known s.declarations V rs a) _ (and_parts (is_known s.declarations V rs h) _ k.known).1).1;
    named = subst (λ w. are_named s.declarations V w b ≡ true) (positions σ h q e).1 (and_parts (are_named s.declarations V (first_position (position_of σ) h) a) _ (and_parts (is_named s.declarations V (position_of σ) h a) _ k.named).1).1;
    typed = below.1;
    constants = (and_parts (binds_none (is_constant_of s.declarations) a) _ (and_parts (head_binds_none (is_constant_of s.declarations) h) _ k.constants).1).1;
    standing = second_standing k.standing h a;
    replications = second_replications k.standing.position h a k.standing.known ∙ ap (replications_below h) k.replications;
    scoped = k.scoped.2;
    sites = AllByRecursion_right (Agrees F) (sites_from rs (first_place k.standing.place h) a) _ (AllByRecursion_right (Agrees F) (sites_here rs k.standing.place h a) _ k.sites);
  }
