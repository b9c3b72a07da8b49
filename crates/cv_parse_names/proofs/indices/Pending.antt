-- Trees that are still to come, by the parts that are left of a list.
use Rattle.std.proofs.Common.{◌≡◌, ℕ, zero, suc, ◌+◌, ◌-◌, ◌<◌, ◌≤◌, List, [], ◌∷◌, ◌++◌, length, take, reverse, get_or, refl, ap, sym, ◌∙◌, subst, arith, append_assoc, append-nil, add-one}
use Rattle.std.proofs.lemmas.List.{reverse-append, reverse-reverse, take_more, take_all}
use Rattle.cv_syntax_trees.specs.declared.head.Head.{Head}
use Rattle.cv_syntax.specs.declared.make.Make.{Make}
use Rattle.cv_syntax.specs.declared.make.Make.TheVariants.{Nothing, Over}
use Rattle.cv_syntax_trees.specs.Tree.{Tree, Empty, Node}
use Rattle.cv_syntax.specs.Postorder.{postorder}
use Rattle.cv_parse_names.specs.indices.Backward.{backward, all_backward}
use Rattle.cv_parse_names.specs.indices.Sites.{part_before}

pub backward_postorder : (t : Tree) → reverse (postorder t) ≡ backward t
unfolding backward postorder
backward_postorder Empty = refl
backward_postorder (Node h a b) =
    reverse-append (postorder a) (postorder b ++ Over h ∷ [])
    ∙ (ap (λ l. l ++ reverse (postorder a)) (reverse-append (postorder b) (Over h ∷ []))
    ∙ (ap (λ l. Over h ∷ (l ++ reverse (postorder a))) (backward_postorder b)
    ∙ ap (λ l. Over h ∷ (backward b ++ l)) (backward_postorder a)))

-- parts that were written backwards
pub postorder_back : (l : List Make) (t : Tree) → l ≡ backward t → reverse l ≡ postorder t
postorder_back l t e = ap reverse (e ∙ sym (backward_postorder t)) ∙ reverse-reverse (postorder t)

-- Of a list the first parts are left: they are those of some trees, for which a fact holds.
pub record Pending (makes : List Make) (at : ℕ) (P : List Tree → Type 0) : Type 0 where
  pub trees : List Tree
  pub parts : reverse (take at makes) ≡ all_backward trees
  pub holds : P trees

pub pending_whole : (makes : List Make) (P : List Tree → Type 0) (t : Tree) → makes ≡ postorder t → P (t ∷ []) → Pending makes (length makes) P
unfolding all_backward
pending_whole makes P t e p = record {
  trees = t ∷ [];
  parts = ap reverse (take_all (length makes) makes (omega arith)) ∙ (ap reverse e ∙ (backward_postorder t ∙ sym (append-nil (backward t))));
  holds = p;
}

-- what stands at the end of the parts that are left
last_part : (makes : List Make) (at : ℕ) (m : Make) → at < length makes → get_or makes at Nothing ≡ m → reverse (take (at + 1) makes) ≡ m ∷ reverse (take at makes)
last_part makes at m l e = ap reverse (take_more makes at Nothing l) ∙ (reverse-append (take at makes) (get_or makes at Nothing ∷ []) ∙ ap (λ x. x ∷ reverse (take at makes)) e)

pub pending_nothing : (makes : List Make) (at : ℕ) (P Q : List Tree → Type 0) → at < length makes → get_or makes at Nothing ≡ Nothing → ((ts : List Tree) → P (Empty ∷ ts) → Q ts) → Pending makes (at + 1) P → Pending makes at Q
unfolding backward all_backward
pending_nothing makes at P Q l e f p = taken p.trees (sym (last_part makes at Nothing l e) ∙ p.parts) p.holds
  where
    taken : (ts : List Tree) → Nothing ∷ reverse (take at makes) ≡ all_backward ts → P ts → Pending makes at Q
    taken [] e q = absurd (cc)
    taken (Empty ∷ ts) e q = record { trees = ts; parts = cc; holds = f ts q }
    taken (Node h a b ∷ ts) e q = absurd (cc)

pub pending_over : (makes : List Make) (at : ℕ) (h : Head) (P Q : List Tree → Type 0) → at < length makes → get_or makes at Nothing ≡ Over h → ((a b : Tree) (ts : List Tree) → P (Node h a b ∷ ts) → Q (b ∷ (a ∷ ts))) → Pending makes (at + 1) P → Pending makes at Q
unfolding backward all_backward
pending_over makes at h P Q l e f p = taken p.trees (sym (last_part makes at (Over h) l e) ∙ p.parts) p.holds
  where
    tail_is : {x y : Make} {xs ys : List Make} → x ∷ xs ≡ y ∷ ys → xs ≡ ys
    tail_is e = cc

    head_is : {k : Head} {xs ys : List Make} → Over h ∷ xs ≡ Over k ∷ ys → k ≡ h
    head_is e = cc

    taken : (ts : List Tree) → Over h ∷ reverse (take at makes) ≡ all_backward ts → P ts → Pending makes at Q
    taken [] e q = absurd (cc)
    taken (Empty ∷ ts) e q = absurd (cc)
    taken (Node k a b ∷ ts) e q = record {
      trees = b ∷ (a ∷ ts);
      parts = tail_is e ∙ append_assoc (backward b) (backward a) (all_backward ts);
      holds = f a b ts (subst (λ (i : Head). P (Node i a b ∷ ts)) (head_is e) q);
    }

-- nothing is left
pub pending_none : (makes : List Make) (P : List Tree → Type 0) → P [] → Pending makes 0 P
unfolding all_backward
pending_none makes P p = record { trees = []; parts = refl; holds = p }

pub pending_end : (makes : List Make) (P : List Tree → Type 0) → Pending makes 0 P → P []
unfolding backward all_backward
pending_end makes P p = end p.trees p.parts p.holds
  where
    end : (ts : List Tree) → [] ≡ all_backward ts → P ts → P []
    end [] e q = q
    end (Empty ∷ ts) e q = absurd (cc)
    end (Node h a b ∷ ts) e q = absurd (cc)

pub pending_same : (makes : List Make) (at : ℕ) (P Q : List Tree → Type 0) → ((ts : List Tree) → P ts → Q ts) → Pending makes at P → Pending makes at Q
pending_same makes at P Q f p = record { trees = p.trees; parts = p.parts; holds = f p.trees p.holds }

-- one part further, if one is left
pub pending_before : (makes : List Make) (at next : ℕ) (P Q : List Tree → Type 0) → at ≤ length makes → next ≡ at - 1 → (part_before makes at ≡ Nothing → P [] → Q []) → (part_before makes at ≡ Nothing → (ts : List Tree) → P (Empty ∷ ts) → Q ts) → ((h : Head) → part_before makes at ≡ Over h → (a b : Tree) (ts : List Tree) → P (Node h a b ∷ ts) → Q (b ∷ (a ∷ ts))) → Pending makes at P → Pending makes next Q
pending_before makes at next P Q l e f g h p = by_place at l e f g h p
  where
    by_place : (at : ℕ) → at ≤ length makes → next ≡ at - 1 → (part_before makes at ≡ Nothing → P [] → Q []) → (part_before makes at ≡ Nothing → (ts : List Tree) → P (Empty ∷ ts) → Q ts) → ((h : Head) → part_before makes at ≡ Over h → (a b : Tree) (ts : List Tree) → P (Node h a b ∷ ts) → Q (b ∷ (a ∷ ts))) → Pending makes at P → Pending makes next Q
    by_place zero l e f g h p =
        let n : 0 ≡ next = omega arith in
        subst (λ (k : ℕ). Pending makes k Q) n (pending_none makes Q (f refl (pending_end makes P p)))
    by_place (suc k) l e f g h p =
        let n : k ≡ next = omega arith in
        let m : k < length makes = omega arith in
        subst (λ (j : ℕ). Pending makes j Q) n (by_make (get_or makes k Nothing) refl)
      where
        q : Pending makes (k + 1) P
        q = subst (λ (j : ℕ). Pending makes j P) (sym (add-one k)) p

        by_make : (m : Make) → get_or makes k Nothing ≡ m → Pending makes k Q
        by_make Nothing i = pending_nothing makes k P Q (omega arith) i (g i) q
        by_make (Over j) i = pending_over makes k j P Q (omega arith) i (h j i) q
