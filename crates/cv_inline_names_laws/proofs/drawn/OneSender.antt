-- A context with one sender and one receiver is of the grammar, and so are its right functions.
use Rattle.std.proofs.Common.{◌≡◌, ℕ, Bool, true, false, cond, ◌&&◌, ◌==◌, not, [], ◌∷◌, refl}
use Rattle.std.proofs.lemmas.Bool.{both_ways, and_parts}
use Rattle.std.specs.List.{AllByRecursion, IsDistinct}
use Rattle.cv_syntax_trees.specs.declared.head.Head.{Head}
use Rattle.cv_syntax_trees.specs.declared.head.Head.TheVariants.{New}
use Rattle.cv_syntax_trees.specs.Tree.{Tree, Empty, Node, size}
use Rattle.cv_meaning.specs.Interpretation.{setting_of}
use Rattle.cv_meaning.specs.Tapes.{blank}
use Rattle.cv_meaning.specs.contexts.Groups.{Right, side_group}
use Rattle.cv_meaning.specs.contexts.Worked.{parity}
use Rattle.cv_meaning.specs.contexts.Roles.{Gone}
use Rattle.cv_inline.specs.NextGame.{call_of, callings_from, names_assigned}
use Rattle.cv_inline.specs.Draws.{body_draws, finds_in, index_draws}
use Rattle.cv_inline.specs.Worked.{one_sender}
use Rattle.cv_inline_laws.specs.draws.DrawnNames.{role_in}
use Rattle.cv_inline_names_laws.specs.cells.Layout.{IsContextText, IsPattern, IsRightFunction, IsTypedBy, is_right_text, is_term}
use Rattle.cv_inline_names_laws.specs.drawn.Named.{NamedContext, drawn_for_context, text_of}
use Rattle.cv_inline_names_laws.specs.drawn.Worked.{answer_there, drawn_numbers, role_there, type_there}

sender_names : NamedContext
unfolding size names_assigned call_of callings_from index_draws body_draws finds_in IsDistinct
sender_names = record {
  g = setting_of [] parity;
  context = one_sender;
  key = 50;
  names = drawn_numbers;
  labels = 1 ∷ [];
  game_role = role_there;
  answer = answer_there;
  constant = λ x. false;
  key_length = 0;
  apart = record {
    names = refl;
    names_apart = ((refl, (refl, (refl, (refl, tt)))), ((refl, (refl, (refl, tt))), ((refl, (refl, tt)), ((refl, tt), (tt, tt)))));
    labels = refl;
    labels_apart = (tt, tt);
  };
  no_constant = λ y e. refl;
  constants = λ x e. absurd (both_ways _ refl e);
  answers = λ s. gone (s == 0);
  key_apart = λ s. other (s == 0);
}
  where
    gone : (b : Bool) → role_in (drawn_for_context one_sender drawn_numbers (1 ∷ []) role_there) (cond b 60 61) ≡ Gone
    gone true = refl
    gone false = refl

    other : (b : Bool) → (50 == cond b 60 61) ≡ false
    other true = refl
    other false = refl

is_choice : Head → Bool
is_choice (New z U) = true
is_choice h = false

pub chooses_none : Tree → Bool
chooses_none Empty = true
chooses_none (Node h a b) = not (is_choice h) && (chooses_none a && chooses_none b)

nothing_chosen : (type : ℕ → ℕ) (t : Tree) → chooses_none t ≡ true → IsTypedBy type t
unfolding chooses_none is_choice IsTypedBy
nothing_chosen type Empty e = tt
nothing_chosen type (Node (New z U) a b) e = absurd (both_ways false refl e)
nothing_chosen type (Node h a b) e = let p = and_parts (chooses_none a) _ e in (nothing_chosen type a p.0, nothing_chosen type b p.1)

right : AllByRecursion IsRightFunction (side_group Right one_sender.equivalence).functions
unfolding chooses_none is_choice is_right_text is_term
right = (record { coins = refl; body = refl; typed = nothing_chosen _ _ refl }, (record { coins = refl; body = refl; typed = nothing_chosen _ _ refl }, tt))

text : IsContextText (text_of sender_names blank blank) type_there one_sender.game
unfolding sender_names IsContextText IsPattern is_term size names_assigned call_of callings_from index_draws body_draws finds_in
text = (
  (refl, tt, tt),
  (
    refl,
    refl,
    (
      refl,
      (
        (tt, ((refl, (refl, tt, tt), (refl, tt, tt)), (refl, (refl, refl, refl, (refl, (tt, tt)))))),
        (tt, ((refl, (refl, tt, tt), (refl, tt, (refl, tt, tt))), (refl, refl, refl, (refl, ((refl, (refl, (tt, tt))), ((tt, tt), tt)))))),
      ),
    ),
  ),
)

pub is_of_the_grammar : (c : NamedContext) × (c.g ≡ setting_of [] parity) × (c.context ≡ one_sender) × (c.names ≡ drawn_numbers) × AllByRecursion IsRightFunction (side_group Right one_sender.equivalence).functions × IsContextText (text_of c blank blank) type_there one_sender.game
unfolding sender_names
is_of_the_grammar = (sender_names, refl, refl, refl, right, text)
