-- Readers one after another, and the parts that they make.
use Rattle.std.proofs.Common.{◌≡◌, ℕ, Bool, true, false, List, [], ◌∷◌, ◌++◌, drop, ap, ap₂, sym, ◌∙◌, append_assoc, append-nil}
use Rattle.cv_syntax_trees.specs.declared.head.Head.{Head}
use Rattle.cv_syntax.specs.declared.make.Make.{Make}
use Rattle.cv_syntax.specs.declared.make.Make.TheVariants.{Over}
use Rattle.cv_syntax_trees.specs.Tree.{Tree, Node}
use Rattle.cv_syntax.specs.Postorder.{postorder}
use Rattle.cv_parse_notation.specs.declared.sign.Sign.{Sign}
use Rattle.cv_parse_notation.specs.declared.sign.Mark.{Mark}
use Rattle.cv_parse_notation.specs.Form.{level, sign}
use Rattle.cv_parse_notation.specs.Reads.{Read, Reader, ◌>>=◌, found, joined, mapped, pick, read_sign}
use Rattle.cv_parse_grammar.specs.declared.role.Role.{Role}
use Rattle.cv_parse_terms.specs.declared.trail.NameUse.{NameUse}
use Rattle.cv_parse_terms.specs.Gives.{IsRead, Opens, Stands, uses_of}

-- one phrase, and another behind it
pub both_read : {A B : Type 0} {all : List Sign} {u v w : List NameUse} {r : Read Role A} {a : A} {m : ℕ} {b : B} {end : ℕ} (q : Reader Role B) → IsRead all u v r a m → IsRead all v w (q (drop m all)) b end → IsRead all u w (r >>= λ x. q x.rest >>= joined x) (a, b) end
both_read {all = all} {u = u} {a = a} {m = m} q d e = record {
  uses = d.uses ++ e.uses;
  is = ap (λ r. r >>= λ x. q x.rest >>= joined x) d.is ∙ ap (λ r. r >>= joined (record { value = a; uses = d.uses; rest = drop m all })) e.is;
  noted = e.noted ∙ (ap (λ us. us ++ e.uses) d.noted ∙ append_assoc (uses_of u) d.uses e.uses);
  within = e.within;
}

-- a word or symbol before a phrase
pub sign_both : {B : Type 0} {all : List Sign} {u v : List NameUse} {b : B} {end : ℕ} (m : Mark) (at k : ℕ) (q : Reader Role B) → Stands all m at k → IsRead all u v (q (drop k all)) b end → IsRead all u v (read_sign m (drop at all) >>= λ x. q x.rest >>= joined x) (tt, b) end
sign_both {all = all} m at k q s e = record {
  uses = e.uses;
  is =
      ap (λ r. r >>= λ x. q x.rest >>= joined x) (s.2 ∙ ap (λ n. found tt [] (drop n all)) (sym s.0))
      ∙ ap (λ r. r >>= joined (record { value = tt; uses = []; rest = drop k all })) e.is;
  noted = e.noted;
  within = e.within;
}

-- and behind it
pub both_sign : {A : Type 0} {all : List Sign} {u v : List NameUse} {r : Read Role A} {a : A} {at : ℕ} (m : Mark) (end : ℕ) → IsRead all u v r a at → Stands all m at end → IsRead all u v (r >>= λ x. read_sign m x.rest >>= joined x) (a, tt) end
both_sign {all = all} {a = a} {at = at} m end d s = record {
  uses = d.uses;
  is =
      ap (λ r. r >>= λ x. read_sign m x.rest >>= joined x) d.is
      ∙ (ap (λ r. r >>= joined (record { value = a; uses = d.uses; rest = drop at all })) s.2 ∙ ap₂ (λ us k. found (a, tt) us (drop k all)) (append-nil d.uses) (sym s.0));
  noted = d.noted;
  within = s.1;
}

pub made_read : {A B : Type 0} {all : List Sign} {u v : List NameUse} {r : Read Role A} {a : A} {end : ℕ} (f : A → B) → IsRead all u v r a end → IsRead all u v (r >>= mapped f) (f a) end
made_read f d = record { uses = d.uses; is = ap (λ x. x >>= mapped f) d.is; noted = d.noted; within = d.within }

-- the one or the other
pub first_read : {A : Type 0} {all : List Sign} {u v : List NameUse} {a : A} {end : ℕ} (b : Bool) (p q : Reader Role A) (ts : List Sign) → b ≡ true → IsRead all u v (p ts) a end → IsRead all u v (pick b p q ts) a end
first_read true p q ts h d = d
first_read false p q ts h d = absurd (cc)

-- behind a word or symbol that opens a level

abbrev pub stands : {all : List Sign} {m : Mark} {n at k : ℕ} → Opens all m n at k → Stands all m at k
stands o = (o.next, o.within, o.sign)

-- parts

-- a node over two trees
pub both_made : (h : Head) (s t : Tree) (a b c d : List Make) → b ≡ a ++ postorder s → c ≡ b ++ postorder t → d ≡ c ++ Over h ∷ [] → d ≡ a ++ postorder (Node h s t)
unfolding postorder
both_made h s t a b c d e f g =
    g ∙ (ap (λ l. l ++ Over h ∷ []) (f ∙ (ap (λ l. l ++ postorder t) e ∙ append_assoc a (postorder s) (postorder t)))
    ∙ (append_assoc a (postorder s ++ postorder t) (Over h ∷ []) ∙ ap (λ l. a ++ l) (append_assoc (postorder s) (postorder t) (Over h ∷ []))))
