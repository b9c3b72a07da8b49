-- Where two places part, and what a pair's derivation ends with.
use Rattle.std.proofs.Common.{◌≡◌, ℕ, ◌<◌, ◌≤◌, Bool, true, false, ◌&&◌, ◌||◌, List, [], ◌∷◌, map, refl, sym, ap, ap₂, ◌∙◌, nat_lt, lt-ltb, le-ltb, Option, Some, None}
use Rattle.std.specs.Prelude.{◌==◌, if◌then◌else◌}
use Rattle.std.specs.List.{list_any}
use Rattle.cv_syntax_trees.specs.declared.head.Head.{Head}
use Rattle.cv_syntax_trees.specs.declared.head.Head.TheVariants.{Eq}
use Rattle.cv_syntax_trees.specs.Tree.{Tree, Empty, Node, chain, first_place, second_place}
use Rattle.cv_scene.specs.Late.{index_term}
use Rattle.cv_scene.specs.lines.Ends.{ends_with, is_end}
use Rattle.cv_scene.specs.lines.Lines.{Holds, lines_of, statements}
use Rattle.cv_scene.specs.lines.Truths.{no}
use Rattle.cv_scene.specs.Pairs.{second_indices}
use Rattle.cv_scene.specs.Scenes.{Scene}
use Rattle.cv_scene.specs.Terms.{replications_at}
use Rattle.cv_query_certificates.specs.PairParts.{ends_pair, saying}
use Rattle.cv_query_certificates.specs.Pairs.{between, ends_of_parting, equations_between, of_first, of_second_child, parting, same_indices}
use Rattle.cv_query_entries.specs.ends.Said.{said_equal}

-- one node on the way down

module _ (c : Option ℕ) (n : ℕ) (t : Tree) (h : Head) (a b : Tree) (p q : ℕ) (e : t ≡ Node h a b) where
  parting_node : parting c n t p q
      ≡ (if nat_lt q (second_place n h a) then parting (of_first n h) (first_place n h) a p q else if nat_lt p (second_place n h a) then between c n h else parting (of_second_child c n h) (second_place n h a) b p q)
  unfolding parting
  parting_node = ap (λ u. parting c n u p q) e

  module _ (behind : ℕ) (f : behind ≡ second_place n h a) where
    pub in_first : (d : Option ℕ) (m : ℕ) → d ≡ of_first n h → m ≡ first_place n h → q < behind → parting d m a p q ≡ parting c n t p q
    in_first d m g i l =
        ap₂ (λ x y. parting x y a p q) g i
        ∙ sym (parting_node ∙ ap (λ x. if x then parting (of_first n h) (first_place n h) a p q else if nat_lt p (second_place n h a) then between c n h else parting (of_second_child c n h) (second_place n h a) b p q) (ap (nat_lt q) (sym f) ∙ lt-ltb q behind l))

    module _ (l : behind ≤ q) where
      in_second : parting c n t p q ≡ (if nat_lt p behind then between c n h else parting (of_second_child c n h) (second_place n h a) b p q)
      in_second =
          parting_node
          ∙ (ap (λ x. if x then parting (of_first n h) (first_place n h) a p q else if nat_lt p (second_place n h a) then between c n h else parting (of_second_child c n h) (second_place n h a) b p q) (ap (nat_lt q) (sym f) ∙ le-ltb q behind l)
          ∙ ap (λ x. if nat_lt p x then between c n h else parting (of_second_child c n h) (second_place n h a) b p q) (sym f))

      pub in_both : (d : Option ℕ) → d ≡ between c n h → p < behind → d ≡ parting c n t p q
      in_both d g m = g ∙ sym (in_second ∙ ap (λ x. if x then between c n h else parting (of_second_child c n h) (second_place n h a) b p q) (lt-ltb p behind m))

      pub behind_both : (d : Option ℕ) → d ≡ of_second_child c n h → behind ≤ p → parting d behind b p q ≡ parting c n t p q
      behind_both d g m =
          ap₂ (λ x y. parting x y b p q) g f
          ∙ sym (in_second ∙ ap (λ x. if x then between c n h else parting (of_second_child c n h) (second_place n h a) b p q) (le-ltb p behind m))

pub parting_none : (c : Option ℕ) (n : ℕ) (t : Tree) (p q : ℕ) → t ≡ Empty → None ≡ parting c n t p q
unfolding parting
parting_none c n t p q e = sym (ap (λ u. parting c n u p q) e)

-- what the last lines say

said_equations : (ms ns : List Tree) → statements (lines_of (saying (equations_between ms ns))) ≡ said_equal (chain ms) (chain ns)
unfolding lines_of statements
said_equations [] ns = refl
said_equations (m ∷ ms) [] = refl
said_equations (m ∷ ms) (n ∷ ns) = ap (λ us. Holds (Node Eq m n) ∷ us) (said_equations ms ns)

said_no : statements (lines_of (saying (no ∷ []))) ≡ Holds no ∷ []
unfolding lines_of statements
said_no = refl

module _ (k : ℕ) (by : Tree) where
  abbrev pub ends_same : List (ℕ × ℕ) → Bool
  ends_same rs = is_end (statements (lines_of by)) (said_equal (chain (map index_term rs)) (chain (map index_term (second_indices k rs))))

  abbrev pub ends_never : Bool
  ends_never = is_end (statements (lines_of by)) (Holds no ∷ [])

  with_same : (rs : List (ℕ × ℕ)) → ends_with by (saying (same_indices k rs)) ≡ ends_same rs
  with_same rs = ap (is_end (statements (lines_of by))) (said_equations (map index_term rs) (map index_term (second_indices k rs)))

  with_never : ends_with by (saying (no ∷ [])) ≡ ends_never
  with_never = ap (is_end (statements (lines_of by))) said_no

  or_nothing : (b : Bool) → (b || false) ≡ b
  or_nothing true = refl
  or_nothing false = refl

  module _ (s : Scene) (p q : ℕ) where
    abbrev ends_in : List (List Tree) → Bool
    ends_in tss = list_any (λ ts. ends_with by (saying ts)) tss

    pub at_one : (rs : List (ℕ × ℕ)) → (p == q) ≡ true → rs ≡ replications_at s p → ends_pair s k p q by ≡ ((true && ends_same rs) || (false && ends_never))
    at_one rs e f =
        ap (λ b. ends_in (if b then same_indices k (replications_at s p) ∷ [] else ends_of_parting s k (parting None 0 s.game p q))) e
        ∙ (ap (λ r. ends_with by (saying (same_indices k r)) || false) (sym f) ∙ ap (λ b. b || false) (with_same rs))

    module _ (e : (p == q) ≡ false) (o : Option ℕ) (f : o ≡ parting None 0 s.game p q) where
      at_two : ends_pair s k p q by ≡ ends_in (ends_of_parting s k o)
      at_two = ap (λ b. ends_in (if b then same_indices k (replications_at s p) ∷ [] else ends_of_parting s k (parting None 0 s.game p q))) e ∙ ap (λ r. ends_in (ends_of_parting s k r)) (sym f)

      pub at_parting : (n : ℕ) (rs : List (ℕ × ℕ)) → o ≡ Some n → rs ≡ replications_at s n → ends_pair s k p q by ≡ ((true && ends_same rs) || (true && ends_never))
      at_parting n rs g i =
          at_two
          ∙ (ap (λ r. ends_in (ends_of_parting s k r)) g
          ∙ (ap (λ r. ends_with by (saying (same_indices k r)) || (ends_with by (saying (no ∷ [])) || false)) (sym i)
          ∙ ap₂ (λ b c. b || c) (with_same rs) (or_nothing (ends_with by (saying (no ∷ []))) ∙ with_never)))

      pub not_parting : (rs : List (ℕ × ℕ)) → o ≡ None → ends_pair s k p q by ≡ ((false && ends_same rs) || (true && ends_never))
      not_parting rs g = at_two ∙ (ap (λ r. ends_in (ends_of_parting s k r)) g ∙ (or_nothing (ends_with by (saying (no ∷ []))) ∙ with_never))
