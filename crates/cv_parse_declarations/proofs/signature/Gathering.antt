-- Collisions from their parts.
use Rattle.std.proofs.Common.{◌≡◌, ℕ, List, [], ◌∷◌, ◌++◌, length, take, drop, refl, ap, ap₂, sym, ◌∙◌, append_assoc}
use Rattle.std.proofs.Math.Seq.{drop-append_seam, take-append_seam}
use Rattle.cv_syntax_trees.specs.declared.head.Head.TheVariants.{Cons, Equivalence, Oracle, Single}
use Rattle.cv_syntax.specs.declared.make.Make.{Make}
use Rattle.cv_syntax.specs.declared.make.Make.TheVariants.{Nothing, Over}
use Rattle.cv_syntax_trees.specs.Tree.{Tree, Node}
use Rattle.cv_syntax.specs.Postorder.{postorder}
use Rattle.cv_parse_notation.specs.declared.sign.Sign.{Sign}
use Rattle.cv_parse_notation.specs.declared.sign.Mark.TheVariants as mark
use Rattle.cv_parse_notation.specs.Form.{◌&◌, ◌◂◌}
use Rattle.cv_parse_grammar.specs.Equivalences.{lone_group}
use Rattle.cv_parse_grammar.specs.Terms.{term}
use Rattle.cv_parse_grammar.specs.Declarations.{forall_vars, probability}
use Rattle.cv_parse_terms.specs.declared.trail.NameUse.{NameUse}
use Rattle.cv_parse_terms.specs.Gives.{IsRead, Stands, read_in}
use Rattle.cv_parse_terms.proofs.Chains.{both_made, both_read, both_sign, made_read}
use Rattle.cv_parse_declarations.specs.signature.Sides.{key_parts, parts_around, parts_before, parts_behind}

-- parts behind others, which are taken away from these

pub kept : (n : ℕ) (a p b : List Make) → n ≡ length a → b ≡ a ++ p → take n b ≡ a
kept n a p b h e = ap₂ take h e ∙ take-append_seam a p

pub taken_away : (n : ℕ) (a p b : List Make) → n ≡ length a → b ≡ a ++ p → drop n b ≡ p
taken_away n a p b h e = ap₂ drop h e ∙ drop-append_seam a p

-- the group of a collision around its term

pub side_made : (x : ℕ) (key args : List Make) (t : Tree) (a b c d : List Make) → b ≡ a ++ parts_before x key args → c ≡ b ++ postorder t → d ≡ c ++ parts_behind x → d ≡ a ++ parts_around x key args t
side_made x key args t a b c d e f g =
    g ∙ (ap (λ l. l ++ parts_behind x) (f ∙ ap (λ l. l ++ postorder t) e)
    ∙ (append_assoc (a ++ parts_before x key args) (postorder t) (parts_behind x)
    ∙ append_assoc a (parts_before x key args) (postorder t ++ parts_behind x)))

group_parts : (x : ℕ) (key : ℕ × ℕ) (args t : Tree) → parts_around x (key_parts key) (postorder args) t ≡ postorder (lone_group x key args t)
unfolding postorder
group_parts x key args t = regrouped (key_parts key) (postorder args) (postorder t) (Over (Single x) ∷ []) (Over (Oracle x) ∷ []) (Over Cons ∷ [])
  where
    regrouped : (o p q s f l : List Make) → (o ++ (Nothing ∷ (p ++ s))) ++ (q ++ (f ++ (Nothing ∷ (l ++ s)))) ≡ o ++ ((((Nothing ∷ (p ++ s)) ++ (q ++ f)) ++ (Nothing ∷ l)) ++ s)
    regrouped o p q s f l = simp append_assoc

-- the groups of both terms, with a probability between them, which makes no part

pub both_sides : (x : ℕ) (key k l : List Make) (args s t : Tree) (a b c d e : List Make) → k ≡ postorder args → l ≡ postorder args → b ≡ a → c ≡ b ++ parts_around x key k s → d ≡ c → e ≡ d ++ parts_around x key l t → e ≡ a ++ (parts_around x key (postorder args) s ++ parts_around x key (postorder args) t)
both_sides x key k l args s t a b c d e h i j f g m =
    m
    ∙ (ap (λ n. n ++ parts_around x key l t) (g ∙ (f ∙ ap (λ n. n ++ parts_around x key k s) j))
    ∙ (append_assoc a (parts_around x key k s) (parts_around x key l t)
    ∙ ap₂ (λ n o. a ++ (parts_around x key n s ++ parts_around x key o t)) h i))

pub groups_made : (x p : ℕ) (key : ℕ × ℕ) (made : List Make) (args s t : Tree) (a b c d : List Make) → made ≡ key_parts key → b ≡ a → c ≡ b ++ (parts_around x made (postorder args) s ++ parts_around x made (postorder args) t) → d ≡ c ++ Over (Equivalence p) ∷ [] → d ≡ a ++ postorder (Node (Equivalence p) (lone_group x key args s) (lone_group x key args t))
groups_made x p key made args s t a b c d h i e f =
    let l = lone_group x key args s in
    let r = lone_group x key args t in
    both_made (Equivalence p) l r a (a ++ postorder l) c d refl
    (e ∙ (ap₂ (λ m n. m ++ (parts_around x n (postorder args) s ++ parts_around x n (postorder args) t)) i h
    ∙ (ap₂ (λ m n. a ++ (m ++ n)) (group_parts x key args s) (group_parts x key args t) ∙ sym (append_assoc a (postorder l) (postorder r))))) f

pub terms_read : {all : List Sign} (n at : ℕ) {k l m i end bound : ℕ} {u v w y z : List NameUse} {args s t : Tree} → IsRead all u v (read_in n forall_vars (drop at all)) args k → IsRead all v w (read_in n term (drop k all)) s l → IsRead all w y (read_in n probability (drop l all)) bound m → IsRead all y z (read_in n term (drop m all)) t i → Stands all mark.Dot i end → IsRead all u z (read_in n (forall_vars & (term & (probability & (term ◂ mark.Dot)))) (drop at all)) (args, (s, (bound, t))) end
terms_read n at {end = end} vars left bound right dot =
    both_read (read_in n (term & (probability & (term ◂ mark.Dot)))) vars
    (both_read (read_in n (probability & (term ◂ mark.Dot))) left
    (both_read (read_in n (term ◂ mark.Dot)) bound (made_read (λ p. p.0) (both_sign mark.Dot end right dot))))
