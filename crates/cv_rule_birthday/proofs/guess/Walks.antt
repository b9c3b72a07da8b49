-- Walks over a game for guesses and for reads, node by node.
use Rattle.std.proofs.Common.{◌≡◌, ℕ, ◌+◌, ◌≤◌, Bool, true, false, cond, not, ◌&&◌, ◌||◌, Option, Some, None, refl, sym, ap, ◌∙◌, arith, List, ◌∷◌, [], ◌++◌}
use Rattle.std.proofs.lemmas.Bool.{and_parts, both_ways}
use Rattle.cv_syntax_trees.specs.declared.head.Head.{Head}
use Rattle.cv_syntax_trees.specs.declared.head.Head.TheVariants.{Eq}
use Rattle.cv_syntax_trees.specs.Head.{weight}
use Rattle.cv_syntax_trees.specs.Tree.{Tree, Empty, Node, first_place, second_place, size}
use Rattle.cv_syntax.specs.declared.make.Make.TheVariants as make
use Rattle.cv_syntax.specs.limits.Limits.{nodes_of}
use Rattle.cv_syntax.specs.Postorder.{joined, postorder}
use Rattle.cv_syntax.proofs.listing.Lists.{overs_append}
use Rattle.cv_syntax_trees.specs.lists.Options.{first_of}
use Rattle.cv_scene.specs.lines.Truths.{no}
use Rattle.cv_scope_rules.specs.Phrases.{Phrase}
use Rattle.cv_scene.specs.Scenes.{head_reads}
use Rattle.cv_scene_view.proofs.Tested.{reads_first, reads_here, reads_rest}
use Rattle.cv_edit_places.specs.Parts.{closed}
use Rattle.cv_edit_places.proofs.Stacks.{closed_push}
use Rattle.cv_steps.specs.Rewriting.{is_term, parts_of}
use Rattle.cv_rule_birthday.specs.guess.Guessing.{Places, falsified, first_read, has_value, is_equality, is_guess, reads}

-- at a node, by what its children are and where they stand

module _ (x : ℕ) (ps : Places) (σ : Phrase) (p : ℕ) (t : Tree) (h : Head) (a b : Tree) (e : t ≡ Node h a b) where
  module _ (v : Bool) (f : v ≡ is_guess x ps σ p h a b) where
    pub false_here : v ≡ true → falsified x ps σ p t ≡ no
    unfolding falsified
    false_here g =
        ap (falsified x ps σ p) e
        ∙ ap (λ w. cond w no (Node h (falsified x ps (parts_of σ h).0 (first_place p h) a) (falsified x ps (parts_of σ h).1 (second_place p h a) b))) (sym f ∙ g)

    pub false_later : v ≡ false → (q : Phrase × Phrase) → q ≡ parts_of σ h → (w n : ℕ) → w ≡ weight h → n ≡ p + weight h + size a
        → falsified x ps σ p t ≡ Node h (falsified x ps q.0 (p + w) a) (falsified x ps q.1 n b)
    unfolding falsified
    false_later g q parts w n weighs next =
        ap (falsified x ps σ p) e
        ∙ (ap (λ w. cond w no (Node h (falsified x ps (parts_of σ h).0 (first_place p h) a) (falsified x ps (parts_of σ h).1 (second_place p h a) b))) (sym f ∙ g)
        ∙ sym (λ i. Node h (falsified x ps (parts i).0 (p + weighs i) a) (falsified x ps (parts i).1 (next i) b)))

  pub read_node : (side : Bool) (q : Phrase × Phrase) → q ≡ parts_of σ h → (l r : Bool) → l ≡ (is_guess x ps σ p h a b && reads x a) → r ≡ (is_guess x ps σ p h a b && not (reads x a))
      → (w n : ℕ) → w ≡ weight h → n ≡ p + weight h + size a
      → first_read x ps σ side p t ≡ cond (has_value σ && (head_reads x h && not side)) (Some p) (first_of (first_read x ps q.0 l (p + w) a) (first_read x ps q.1 r n b))
  unfolding first_read
  read_node side q parts l r left right w n weighs next =
      ap (first_read x ps σ side p) e
      ∙ sym (λ i. cond (has_value σ && (head_reads x h && not side)) (Some p) (first_of (first_read x ps (parts i).0 (left i) (p + weighs i) a) (first_read x ps (parts i).1 (right i) (next i) b)))

-- at the end of a chain

pub false_end : (x : ℕ) (ps : Places) (σ : Phrase) (p : ℕ) (t : Tree) → t ≡ Empty → falsified x ps σ p t ≡ Empty
unfolding falsified
false_end x ps σ p t e = ap (falsified x ps σ p) e

pub read_end : (x : ℕ) (ps : Places) (σ : Phrase) (side : Bool) (p : ℕ) (t : Tree) → t ≡ Empty → first_read x ps σ side p t ≡ None
unfolding first_read
read_end x ps σ side p t e = ap (first_read x ps σ side p) e

-- what is found in what is left of a tree is found in the whole tree

pub found_here : (left all o : Option ℕ) (p : ℕ) (b c : Bool) → left ≡ all → left ≡ cond c (Some p) o → b ≡ c → b ≡ true → all ≡ Some p
found_here left all o p b c i e f g = sym i ∙ reads_here left o p b c e f g

pub found_first : (left all o q : Option ℕ) (p r : ℕ) (b c : Bool) → left ≡ all → left ≡ cond c (Some p) (first_of o q) → b ≡ c → b ≡ false → o ≡ Some r → all ≡ Some r
found_first left all o q p r b c i e f g h = sym i ∙ reads_first left o q p r b c e f g h

pub found_later : (left all o q : Option ℕ) (p : ℕ) (b c : Bool) → left ≡ all → left ≡ cond c (Some p) (first_of o q) → b ≡ c → b ≡ false → o ≡ None → q ≡ all
found_later left all o q p b c i e f g h = sym (reads_rest left o q p b c e f g h) ∙ i

-- what is listed of what is left of a tree lists the whole tree

pub listed_here : (heads : List Head) (t u : Tree) (stack before after all : List Tree) → closed heads (u ∷ stack) ≡ all → u ≡ t → before ≡ t ∷ stack → after ≡ closed heads before → after ≡ all
listed_here heads t u stack before after all i e f g = g ∙ (ap (closed heads) (f ∙ ap (λ v. v ∷ stack) (sym e)) ∙ i)

pub listed_later : (heads more : List Head) (h : Head) (first next u : Tree) (stack after all : List Tree) → closed heads (u ∷ stack) ≡ all → u ≡ Node h first next → after ≡ first ∷ stack → more ≡ heads ++ h ∷ [] → closed more (next ∷ after) ≡ all
listed_later heads more h first next u stack after all i e f g =
    ap (λ hs. closed hs (next ∷ after)) g
    ∙ (closed_push heads h (next ∷ after)
    ∙ (ap (λ r. closed heads (joined h (next ∷ r))) f
    ∙ (ap (λ r. closed heads (r ∷ stack)) (sym e)
    ∙ i)))

-- how many nodes a tree has

pub nodes_none : nodes_of Empty ≡ 0
unfolding postorder
nodes_none = refl

pub nodes_no : nodes_of no ≡ 1
unfolding postorder
nodes_no = refl

pub nodes_node : (h : Head) (a b : Tree) → nodes_of (Node h a b) ≡ nodes_of a + nodes_of b + 1
unfolding postorder
nodes_node h a b = omega (arith, overs_append (postorder a) (postorder b ++ make.Over h ∷ []), overs_append (postorder b) (make.Over h ∷ []))

-- the game isn't larger without the guesses

equal_weight : (h : Head) → is_equality h ≡ true → 1 ≤ weight h
equal_weight Eq e = omega arith
equal_weight h e = absurd (both_ways false refl e)

pub not_larger : (x : ℕ) (ps : Places) (σ : Phrase) (p : ℕ) (t : Tree) → size (falsified x ps σ p t) ≤ size t
unfolding falsified size
not_larger x ps σ p Empty = omega arith
not_larger x ps σ p (Node h a b) =
    go (is_guess x ps σ p h a b) refl (not_larger x ps (parts_of σ h).0 (first_place p h) a) (not_larger x ps (parts_of σ h).1 (second_place p h a) b)
  where
    first : Tree
    first = falsified x ps (parts_of σ h).0 (first_place p h) a

    second : Tree
    second = falsified x ps (parts_of σ h).1 (second_place p h a) b

    go : (v : Bool) → is_guess x ps σ p h a b ≡ v → size first ≤ size a → size second ≤ size b → size (cond v no (Node h first second)) ≤ weight h + size a + size b
    go true e l m = let w : 1 ≤ weight h = equal_weight h (and_parts (is_equality h) (ps p && (reads x a || reads x b)) (and_parts (is_term σ) _ e).1).0 in omega (arith, w)
    go false e l m = omega (arith, l, m)
