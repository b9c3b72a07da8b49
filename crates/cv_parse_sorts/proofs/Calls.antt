-- What is spelled has what the rules of names say of the uses of names in it, where a call is told from a mention.
use Rattle.std.proofs.Common.{◌≡◌, ℕ, Bool, true, false, List, [], ◌∷◌, ◌++◌, Some, None, inl, inr, refl, subst}
use Rattle.std.proofs.lemmas.Bool.{both_ways}
use Rattle.std.specs.List.{AllByRecursion}
use Rattle.cv_syntax_trees.specs.Tree.{Tree}
use Rattle.cv_parse_notation.specs.declared.sign.Mark.{Mark}
use Rattle.cv_parse_notation.specs.declared.sign.Sign.{Sign}
use Rattle.cv_parse_notation.specs.Form.{both, may, many, either, made, level, ◌▸◌, ◌◂◌}
use Rattle.cv_parse_notation.specs.Spells.{Each, Kind, Perhaps, Relation, Spells, starts}
use Rattle.cv_parse_grammar.specs.declared.role.Role.{Role}
use Rattle.cv_parse_grammar.specs.declared.role.Role.TheVariants.{Mentions, MentionsCell}
use Rattle.cv_parse_grammar.specs.Names.{Uses, as_call}
use Rattle.cv_parse_grammar.specs.Phrases.{Phrase, Sort, or_else, row, bracket, square}
use Rattle.cv_parse_grammar.specs.Rules.{heads}
use Rattle.cv_parse_grammar.specs.yields.Yields.{IfThere}
use Rattle.cv_parse_laws.proofs.roles.Forms.{else_is}

module _ (F V : ℕ → Type 0) where
  -- of a use and those behind it: what is called is a function, the variable of a cell is a variable
  abbrev pub Says : Role → ℕ → Uses → Type 0
  Says Mentions x behind = as_call behind ≡ true → F x
  Says MentionsCell x behind = V x
  Says r x behind = Unit {0}

  abbrev pub AllSay : Uses → Type 0
  AllSay [] = Unit {0}
  AllSay (u ∷ us) = Says u.role u.name us × AllSay us

  front_says : (r : Role) (x : ℕ) (us vs : Uses) → Says r x (us ++ vs) → Says r x us
  front_says Mentions x [] vs w = λ e. absurd (both_ways false refl e)
  front_says Mentions x (u ∷ us) vs w = w
  front_says MentionsCell x us vs w = w
  front_says r x us vs w = tt

  front_say : (us vs : Uses) → AllSay (us ++ vs) → AllSay us
  front_say [] vs w = tt
  front_say (u ∷ us) vs w = (front_says u.role u.name us vs w.0, front_say us vs w.1)

  back_say : (us vs : Uses) → AllSay (us ++ vs) → AllSay vs
  back_say [] vs w = w
  back_say (u ∷ us) vs w = back_say us vs w.1

  pub at_front : (us front back : Uses) → us ≡ front ++ back → AllSay us → AllSay front
  at_front us front back e w = front_say front back (subst AllSay e w)

  pub at_back : (us front back : Uses) → us ≡ front ++ back → AllSay us → AllSay back
  at_back us front back e w = back_say front back (subst AllSay e w)

  abbrev pub Tells : {A : Type 0} → Relation Role A → (A → Type 0) → Type 0
  Tells {A} S p = (ts : List Sign) (a : A) (us : Uses) (rest : List Sign) → S ts a us rest → AllSay us → p a

  pub perhaps_tells : {A : Type 0} (S : Relation Role A) (p : A → Type 0) (near : Bool) (k : Kind → Bool) → Tells S p → Tells (Perhaps S near k) (IfThere p)
  perhaps_tells S p near k i ts None us rest d w = tt
  perhaps_tells S p near k i ts (Some a) us rest d w = i ts a us rest d w

  pub each_tells : {A : Type 0} (S : Relation Role A) (p : A → Type 0) (near : Bool) (k : Kind → Bool) → Tells S p → Tells (Each S near k) (AllByRecursion p)
  each_tells S p near k i ts [] us rest d w = tt
  each_tells S p near k i ts (a ∷ l) us rest d w = (i ts a d.front d.mid d.first (at_front us d.front d.back d.uses w), each_tells S p near k i d.mid l d.back rest d.second (at_back us d.front d.back d.uses w))

-- the values of a phrase are such
pub record Gives {A : Type 0} (F V : ℕ → Type 0) (room : Bool) (below : Sort → Relation Role Tree) (f : Phrase A) (p : A → Type 0) : Type 0 where
  pub gives : (ts : List Sign) (a : A) (us : Uses) (rest : List Sign) → Spells heads room below f ts a us rest → AllSay F V us → p a

module _ {F V : ℕ → Type 0} {room : Bool} {below : Sort → Relation Role Tree} where
  pub anything : {A : Type 0} {f : Phrase A} → Gives F V room below f (λ _. Unit {0})
  anything = record { gives = λ ts a us rest d w. tt }

  pub follow : {A B : Type 0} {f : Phrase A} {g : Phrase B} {p : A → Type 0} {q : B → Type 0} → Gives F V room below f p → Gives F V room below g q → Gives F V room below (both f g) (λ x. p x.0 × q x.1)
  follow i j = record {
    gives = λ ts a us rest d w. (i.gives ts a.0 d.front d.mid d.first (at_front F V us d.front d.back d.uses w), j.gives d.mid a.1 d.back rest d.second (at_back F V us d.front d.back d.uses w));
  }

  pub turned : {A B : Type 0} {v : A → B} {f : Phrase A} {p : A → Type 0} {q : B → Type 0} → Gives F V room below f p → ((a : A) → p a → q (v a)) → Gives F V room below (made v f) q
  turned {q = q} i k = record { gives = λ ts b us rest d w. subst q d.2 (k d.0 (i.gives ts d.0 us rest d.1 w)) }

  pub weaker : {A : Type 0} {f : Phrase A} {p q : A → Type 0} → Gives F V room below f p → ((a : A) → p a → q a) → Gives F V room below f q
  weaker i k = record { gives = λ ts a us rest d w. k a (i.gives ts a us rest d w) }

  pub perhaps : {A : Type 0} {near : Bool} {f : Phrase A} {p : A → Type 0} → Gives F V room below f p → Gives F V room below (may near f) (IfThere p)
  perhaps {near = near} {f = f} {p = p} i = record { gives = perhaps_tells F V (Spells heads room below f) p near (starts heads f) i.gives }

  pub several : {A : Type 0} {near : Bool} {f : Phrase A} {p : A → Type 0} → Gives F V room below f p → Gives F V room below (many near f) (AllByRecursion p)
  several {near = near} {f = f} {p = p} i = record { gives = each_tells F V (Spells heads room below f) p near (starts heads f) i.gives }

  pub one_of : {A : Type 0} {f g : Phrase A} {p : A → Type 0} → Gives F V room below f p → Gives F V room below g p → Gives F V room below (either f g) p
  one_of {p = p} i j = record { gives = λ ts a us rest d w. elim d as (λ _. p a) [ inl e ↦ i.gives ts a us rest e w | inr e ↦ j.gives ts a us rest e.1 w ] }

  pub leveled : {A : Type 0} {f : Phrase A} {p : A → Type 0} → Gives F V room below f p → Gives F V room below (level f) p
  leveled i = record { gives = λ ts a us rest d w. i.gives ts a us rest d.1 w }

  pub behind : {A : Type 0} {m : Mark} {f : Phrase A} {p : A → Type 0} → Gives F V room below f p → Gives F V room below (m ▸ f) p
  behind i = turned (follow anything i) (λ x w. w.1)

  pub before : {A : Type 0} {m : Mark} {f : Phrase A} {p : A → Type 0} → Gives F V room below f p → Gives F V room below (f ◂ m) p
  before i = turned (follow i anything) (λ x w. w.0)

  pub in_row : {A : Type 0} {m : Mark} {f : Phrase A} {p : A → Type 0} → Gives F V room below f p → Gives F V room below (row m f) (AllByRecursion p)
  in_row i = turned (follow i (several (behind i))) (λ x w. w)

  pub bracketed : {A : Type 0} {f : Phrase A} {p : A → Type 0} → Gives F V room below f p → Gives F V room below (bracket f) p
  bracketed i = leveled (behind (before i))

  pub squared : {A : Type 0} {f : Phrase A} {p : A → Type 0} → Gives F V room below f p → Gives F V room below (square f) p
  squared i = leveled (behind (before i))

  pub or_this : {A : Type 0} {near : Bool} {f : Phrase A} {p : A → Type 0} (a : A) → p a → Gives F V room below f p → Gives F V room below (made (or_else a) (may near f)) p
  or_this {p = p} a w i = turned (perhaps i) (else_is p a w)
