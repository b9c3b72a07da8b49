-- The last statements of a list, found by a walk that is so many statements ahead.
use Rattle.std.proofs.Common.{◌≡◌, ℕ, zero, suc, ◌-◌, ◌<◌, ◌≤◌, Bool, true, false, ◌&&◌, not, List, [], ◌∷◌, length, drop, Option, None, Some, refl, sym, ap, ap₂, ◌∙◌, arith, lt-ltb, le-ltb}
use Rattle.std.proofs.lemmas.List.{length-drop}
use Rattle.cv_syntax_trees.proofs.lists.Tests.{and_true}
use Rattle.cv_syntax_trees.specs.declared.head.Head.{Head}
use Rattle.cv_syntax_trees.specs.declared.head.Head.TheVariants.{Eq}
use Rattle.cv_syntax_trees.specs.Tree.{Tree, Empty, Node, same_tree}
use Rattle.cv_scene.specs.lines.Ends.{is_end, same_statement, same_statements}
use Rattle.cv_syntax_trees.specs.Children.{is_empty}
use Rattle.cv_scene.specs.lines.Lines.{Statement, Holds, IsDefined, lines_of, statements}
use Rattle.cv_derive_reasons.specs.inferences.Sides.{sides_of}
use Rattle.cv_derive_reasons.proofs.inferences.Forms.{over_form, tested}
use Rattle.cv_query_entries.proofs.ends.Lines.{nothing_said, some_said}
use Rattle.cv_query_entries.specs.ends.Said.{said_equal}

-- two lists of terms

pub none_equal : (s t : Tree) → s ≡ Empty → said_equal s t ≡ []
none_equal s t e = ap (λ u. said_equal u t) e

pub none_left : (s t : Tree) (h : Head) (m ms : Tree) → s ≡ Node h m ms → t ≡ Empty → said_equal s t ≡ []
none_left s t h m ms e f = ap₂ said_equal e f

pub one_equal : (s t : Tree) (h k : Head) (m ms n ns : Tree) → s ≡ Node h m ms → t ≡ Node k n ns → said_equal s t ≡ Holds (Node Eq m n) ∷ said_equal ms ns
one_equal s t h k m ms n ns e f = ap₂ said_equal e f

-- the end of a list

module _ (ts us : List Statement) where
  pub too_few : length ts < length us → is_end ts us ≡ false
  too_few l = ap (λ b. not b && same_statements (drop (length ts - length us) ts) us) (lt-ltb (length ts) (length us) l)

  pub end_last : length us ≤ length ts → is_end ts us ≡ same_statements (drop (length ts - length us) ts) us
  end_last l = ap (λ b. not b && same_statements (drop (length ts - length us) ts) us) (le-ltb (length ts) (length us) l)

-- dropping

drop_tail : {A : Type 0} (k : ℕ) (xs ys : List A) (y : A) → drop k xs ≡ y ∷ ys → drop (suc k) xs ≡ ys
drop_tail zero [] ys y e = absurd (let z : [] ≡ y ∷ ys = e in cc)
drop_tail zero (x ∷ xs) ys y e = let z : x ∷ xs ≡ y ∷ ys = e in cc
drop_tail (suc k) [] ys y e = absurd (let z : [] ≡ y ∷ ys = e in cc)
drop_tail (suc k) (x ∷ xs) ys y e = drop_tail k xs ys y e

-- a walk from a list with one that is k ahead of it, and the end that is looked for
pub record IsAhead (k : ℕ) (last start ahead : List Statement) : Type 0 where
  pub apart : ahead ≡ drop k start
  pub within : k ≤ length start
  pub left : drop (length start - k) start ≡ last

module _ (k : ℕ) (last start ahead : List Statement) (i : IsAhead k last start ahead) where
  long : length ahead ≡ length start - k
  long = ap length i.apart ∙ length-drop k start

  pub at_last : ahead ≡ [] → start ≡ last
  at_last e =
      let n : length ahead ≡ 0 = ap length e in
      let z : length start - k ≡ 0 = omega (arith, n, long) in
      sym (ap (λ m. drop m start) z) ∙ i.left

  module _ (a : Statement) (more : List Statement) (e : ahead ≡ a ∷ more) where
    pub not_last : (ss : List Statement) → ss ≡ start → ss ≡ [] → ⊥
    not_last ss f g =
        let n : length ahead ≡ suc (length more) = ap length e in
        let z : length start ≡ 0 = ap length (sym f ∙ g) in
        omega (arith, n, z, long)

    pub ahead_more : (s : Statement) (ss : List Statement) → start ≡ s ∷ ss → IsAhead k last ss more
    ahead_more s ss f =
        let n : length ahead ≡ suc (length more) = ap length e in
        let m : length start ≡ suc (length ss) = ap length f in
        let l : k ≤ length ss = omega (arith, n, m, long) in
        let j : length start - k ≡ suc (length ss - k) = omega (arith, m, l) in
        record {
          apart = sym (sym (ap (drop (suc k)) f) ∙ drop_tail k start more a (sym i.apart ∙ e));
          within = l;
          left = ap (λ n. drop n (s ∷ ss)) {x = suc (length ss - k)} refl ∙ (sym (ap₂ drop j f) ∙ i.left);
        }

-- one statement that is the last

module _ (ts : List Statement) (u : Statement) where
  pub no_end : ts ≡ [] → false ≡ is_end ts (u ∷ [])
  no_end e = sym (ap (λ l. is_end l (u ∷ [])) e)

  module _ (ws : List Statement) (l : 1 ≤ length ts) (e : ws ≡ drop (length ts - 1) ts) where
    last_by : is_end ts (u ∷ []) ≡ same_statements ws (u ∷ [])
    last_by = end_last ts (u ∷ []) l ∙ ap (λ vs. same_statements vs (u ∷ [])) (sym e)

    pub nothing_last : ws ≡ [] → false ≡ is_end ts (u ∷ [])
    nothing_last f = sym (last_by ∙ ap (λ vs. same_statements vs (u ∷ [])) f)

    pub one_last : (w : Statement) (vs : List Statement) → ws ≡ w ∷ vs → same_statement w u ≡ is_end ts (u ∷ [])
    one_last w vs f =
        let n : length ws ≡ length ts - (length ts - 1) = ap length e ∙ length-drop (length ts - 1) ts in
        let m : length ws ≡ suc (length vs) = ap length f in
        sym (last_by ∙ (ap (λ z. same_statements z (u ∷ [])) f ∙ (ap (λ b. same_statement w u && b) (none vs (omega (arith, n, m, l))) ∙ and_true (same_statement w u))))
      where
        none : (vs : List Statement) → length vs ≡ 0 → same_statements vs [] ≡ true
        none [] z = refl
        none (v ∷ vs) z = absurd (omega (arith, z))

-- a line that says that two terms are equal

module _ (l : Statement) (t m n : Tree) (e : l ≡ Holds t) where
  by_sides : same_statement l (Holds (Node Eq m n)) ≡ tested (sides_of Eq t) (λ p. same_tree p.0 m && same_tree p.1 n)
  by_sides = ap (λ u. same_statement u (Holds (Node Eq m n))) e ∙ over_form Eq m n t

  pub no_sides : (o : Option (Tree × Tree)) → o ≡ sides_of Eq t → o ≡ None → false ≡ same_statement l (Holds (Node Eq m n))
  no_sides o f g = sym (by_sides ∙ ap (λ q. tested q (λ p. same_tree p.0 m && same_tree p.1 n)) (sym f ∙ g))

  module _ (o : Option (Tree × Tree)) (f : o ≡ sides_of Eq t) (x y : Tree) (g : o ≡ Some (x, y)) (b : Bool) (i : b ≡ same_tree x m) where
    both_sides : same_statement l (Holds (Node Eq m n)) ≡ (b && same_tree y n)
    both_sides = by_sides ∙ (ap (λ q. tested q (λ p. same_tree p.0 m && same_tree p.1 n)) (sym f ∙ g) ∙ ap (λ d. d && same_tree y n) (sym i))

    pub first_differs : b ≡ false → b ≡ same_statement l (Holds (Node Eq m n))
    first_differs j = j ∙ sym (both_sides ∙ ap (λ d. d && same_tree y n) j)

    pub first_same : (c : Bool) → c ≡ same_tree y n → b ≡ true → c ≡ same_statement l (Holds (Node Eq m n))
    first_same c k j = k ∙ sym (both_sides ∙ ap (λ d. d && same_tree y n) j)

pub no_term : (l : Statement) (c t : Tree) → l ≡ IsDefined c → false ≡ same_statement l (Holds t)
no_term l c t e = sym (ap (λ u. same_statement u (Holds t)) e)

-- comparing lines with a cell and equations

module _ (ls us : List Statement) (c : Tree) where
  pub no_cell_line : ls ≡ [] → false ≡ same_statements ls (IsDefined c ∷ us)
  no_cell_line e = sym (ap (λ l. same_statements l (IsDefined c ∷ us)) e)

  module _ (l : Statement) (rest : List Statement) (e : ls ≡ l ∷ rest) where
    cell_line : same_statements ls (IsDefined c ∷ us) ≡ (same_statement l (IsDefined c) && same_statements rest us)
    cell_line = ap (λ k. same_statements k (IsDefined c ∷ us)) e

    pub term_first : (t : Tree) → l ≡ Holds t → false ≡ same_statements ls (IsDefined c ∷ us)
    term_first t f = sym (cell_line ∙ ap (λ k. same_statement k (IsDefined c) && same_statements rest us) f)

    module _ (d : Tree) (f : l ≡ IsDefined d) (b : Bool) (i : b ≡ same_tree d c) where
      by_cell : same_statements ls (IsDefined c ∷ us) ≡ (b && same_statements rest us)
      by_cell = cell_line ∙ (ap (λ k. same_statement k (IsDefined c) && same_statements rest us) f ∙ ap (λ k. k && same_statements rest us) (sym i))

      pub other_cell : b ≡ false → b ≡ same_statements ls (IsDefined c ∷ us)
      other_cell j = j ∙ sym (by_cell ∙ ap (λ k. k && same_statements rest us) j)

      pub that_cell : (r : Bool) → r ≡ same_statements rest us → b ≡ true → r ≡ same_statements ls (IsDefined c ∷ us)
      that_cell r k j = k ∙ sym (by_cell ∙ ap (λ z. z && same_statements rest us) j)

-- no line is left, or some

pub nothing_left : (ls : List Statement) (u : Tree) (c : Bool) (us : List Statement) → ls ≡ statements (lines_of u) → us ≡ [] → c ≡ is_empty u → c ≡ same_statements ls us
nothing_left ls Empty c us e f g = g ∙ sym (ap₂ same_statements (e ∙ nothing_said Empty refl) f)
nothing_left ls (Node h a b) c us e f g = g ∙ sym (ap₂ same_statements (e ∙ some_said h a b) f)

-- comparing lines with equations

module _ (s t : Tree) (h k : Head) (m ms n ns : Tree) (e : s ≡ Node h m ms) (f : t ≡ Node k n ns) where
  pub no_line : (ls : List Statement) → ls ≡ [] → same_statements ls (said_equal s t) ≡ false
  no_line ls g = ap₂ same_statements g (one_equal s t h k m ms n ns e f)

  pub one_more : length (said_equal s t) ≡ suc (length (said_equal ms ns))
  one_more = ap length (one_equal s t h k m ms n ns e f)

  module _ (ls : List Statement) (l : Statement) (rest : List Statement) (g : ls ≡ l ∷ rest) where
    compared : same_statements ls (said_equal s t) ≡ (same_statement l (Holds (Node Eq m n)) && same_statements rest (said_equal ms ns))
    compared = ap₂ same_statements g (one_equal s t h k m ms n ns e f)

    pub other_line : (c : Bool) → c ≡ same_statement l (Holds (Node Eq m n)) → c ≡ false → same_statements ls (said_equal s t) ≡ false
    other_line c i j = compared ∙ ap (λ b. b && same_statements rest (said_equal ms ns)) (sym i ∙ j)

    pub next_lines : (c : Bool) → c ≡ same_statement l (Holds (Node Eq m n)) → c ≡ true → same_statements rest (said_equal ms ns) ≡ same_statements ls (said_equal s t)
    next_lines c i j = sym (compared ∙ ap (λ b. b && same_statements rest (said_equal ms ns)) (sym i ∙ j))

    pub drop_one : drop (length (said_equal s t)) ls ≡ drop (length (said_equal ms ns)) rest
    drop_one = ap₂ (λ us vs. drop (length us) vs) (one_equal s t h k m ms n ns e f) g
