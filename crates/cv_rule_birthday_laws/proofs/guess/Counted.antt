-- The copies of a guess are those of its place; and guesses stand one after another. So all copies of guesses are no more than those of
-- the places.
use Rattle.std.proofs.Common.{◌≡◌, ℕ, ◌+◌, ◌-◌, ◌<◌, ◌≤◌, ◌==◌, ◌||◌, Bool, true, false, cond, List, [], ◌∷◌, ◌++◌, map, Some, option_map, refl, sym, ap, ap₂, subst, ◌∙◌, arith, nat_lt, ltb, lt-ltb, le-ltb, ltb-true, ltb-false, le_trans, le_of_eq, eqb-true}
use Rattle.std.proofs.lemmas.Bool.{both_ways, and_parts}
use Rattle.std.proofs.lemmas.List.{append-nil, append_assoc, map-append}
use Rattle.std.proofs.lemmas.List.Sums.{sum_by-cons}
use Rattle.std.specs.Prelude.{sum_by}
use Rattle.std.specs.List.{AllByRecursion, list_any}
use Rattle.cv_syntax_trees.specs.declared.head.Head.{Head}
use Rattle.cv_syntax_trees.specs.declared.head.Head.TheVariants.{Stop, Yield, Par, Repl, In, Out, Event, New, Let, If, Find, Branch, Leaf, Read, Apply, Eq, And, Or, Not, Yes, No, Cons, Binder, Name}
use Rattle.cv_syntax_trees.specs.Head.{weight}
use Rattle.cv_syntax_trees.specs.Tree.{Tree, Empty, Node, first, first_place, second_place, size}
use Rattle.cv_meaning.specs.Interpretation.{Interpretation}
use Rattle.cv_path.specs.Copies.{added, copies_at, guards, parameters}
use Rattle.cv_scope_rules.specs.Context.{replications_below}
use Rattle.cv_scope_rules.specs.Phrases.{Phrase, Inputs, Body, Then, Else, Branches, Arm, Guards, Guarded, Pattern, Message, Indices, Binders, Cells, OneCell, Terms, Term, is_phrase, parts}
use Rattle.cv_steps.specs.Rewriting.{is_term, parts_of}
use Rattle.cv_steps.proofs.Flat.{open_phrase}
use Rattle.cv_steps.proofs.Places.{is_bare}
use Rattle.cv_rule_fresh.specs.collisions.Chances.{copies}
use Rattle.cv_syntax_trees.proofs.lists.Each.{AllByRecursion_append, AllByRecursion_weaker}
use Rattle.cv_rule_birthday.specs.Comparing.{is_one_of}
use Rattle.cv_rule_birthday.specs.guess.Guessing.{Places, falsified, is_equality, is_guess}
use Rattle.cv_rule_birthday.specs.guess.Row.{or_none, parameters_of}
use Rattle.cv_rule_birthday_laws.specs.guess.Spots.{Spot, binders_below, construct_below, parameters_of_spot, spot_of, spots, spots_of}
use Rattle.cv_rule_birthday_laws.proofs.guess.Unread.{equality_is, is_read, parts_are, spots_bare, term_is}

abbrev second_of : ℕ × ℕ → ℕ
second_of r = r.1

-- copies of places of children

copies_some : (t : Tree) (r : ℕ) → r < size t → (ns : List ℕ) × (copies_at t r ≡ Some ns)
unfolding copies_at size
copies_some Empty r l = absurd (omega arith)
copies_some (Node h a b) r l = go (nat_lt r (weight h)) refl (nat_lt r (weight h + size a)) refl (λ k. copies_some a (r - weight h) k) (λ k. copies_some b (r - (weight h + size a)) k)
  where
    go : (v : Bool) → nat_lt r (weight h) ≡ v → (w : Bool) → nat_lt r (weight h + size a) ≡ w → (r - weight h < size a → (ns : List ℕ) × (copies_at a (r - weight h) ≡ Some ns))
        → (r - (weight h + size a) < size b → (ns : List ℕ) × (copies_at b (r - (weight h + size a)) ≡ Some ns))
        → (ns : List ℕ) × (cond v (Some []) (cond w (copies_at a (r - weight h)) (option_map (λ ns. added h a b (r - (weight h + size a)) ++ ns) (copies_at b (r - (weight h + size a))))) ≡ Some ns)
    go true f w g ia ib = ([], refl)
    go false f true g ia ib = let m = ltb-false r (weight h) f in let n = ltb-true r (weight h + size a) g in ia (omega arith)
    go false f false g ia ib =
        let m = ltb-false r (weight h + size a) g in
        let k = ib (omega arith) in
        (added h a b (r - (weight h + size a)) ++ k.0, ap (option_map (λ ns. added h a b (r - (weight h + size a)) ++ ns)) k.1)

copies_first : (h : Head) (a b : Tree) (r : ℕ) → r < size a → copies_at (Node h a b) (weight h + r) ≡ copies_at a r
unfolding copies_at
copies_first h a b r l =
    let u : ltb (weight h + r) (weight h) ≡ false = le-ltb _ _ (omega arith) in
    let v : ltb (weight h + r) (weight h + size a) ≡ true = lt-ltb _ _ (omega arith) in
    let m : weight h + r - weight h ≡ r = omega arith in
    ap₂ (λ c d. cond c (Some []) (cond d (copies_at a (weight h + r - weight h)) (option_map (λ ns. added h a b (weight h + r - (weight h + size a)) ++ ns) (copies_at b (weight h + r - (weight h + size a)))))) u v ∙ ap (copies_at a) m

copies_second_at : (h : Head) (a b : Tree) (r : ℕ) → copies_at (Node h a b) (weight h + size a + r) ≡ option_map (λ ns. added h a b r ++ ns) (copies_at b r)
unfolding copies_at
copies_second_at h a b r =
    let p : ℕ = weight h + size a + r in
    let u : ltb p (weight h) ≡ false = le-ltb _ _ (omega arith) in
    let v : ltb p (weight h + size a) ≡ false = le-ltb _ _ (omega arith) in
    let m : p - (weight h + size a) ≡ r = omega arith in
    ap₂ (λ c d. cond c (Some []) (cond d (copies_at a (p - weight h)) (option_map (λ ns. added h a b (p - (weight h + size a)) ++ ns) (copies_at b (p - (weight h + size a)))))) u v
    ∙ ap (λ n. option_map (λ ns. added h a b n ++ ns) (copies_at b n)) m

copies_second : (h : Head) (a b : Tree) (r : ℕ) → r < size b → or_none (copies_at (Node h a b) (weight h + size a + r)) ≡ added h a b r ++ or_none (copies_at b r)
copies_second h a b r l =
    let k = copies_some b r l in
    ap or_none (copies_second_at h a b r ∙ ap (option_map (λ ns. added h a b r ++ ns)) k.1) ∙ sym (ap (λ o. added h a b r ++ or_none o) k.1)

-- What is added to the parameters of the replications above a tree, for a place in it: the indices of a branch stand above its list and
-- its condition, and not above its body.

abbrev is_within : Phrase → Tree → (place : ℕ) → Bool
is_within Guards t r = nat_lt r (guards t)
is_within Guarded t r = nat_lt r (size (first t))
is_within σ t r = true

abbrev added_at : Phrase → (us t : Tree) → (place : ℕ) → List ℕ
added_at σ us t r = cond (is_within σ t r) (parameters us) [] ++ or_none (copies_at t r)

-- no branch's indices stand above a process
abbrev Fits : Phrase → Tree → Type 0
Fits Inputs us = us ≡ Empty
Fits Body us = us ≡ Empty
Fits Then us = us ≡ Empty
Fits Else us = us ≡ Empty
Fits Branches us = us ≡ Empty
Fits Arm us = us ≡ Empty
Fits σ us = Unit {0}

record RowAdds (σ τ ρ : Phrase) (h : Head) (a b us : Tree) (rs : List (ℕ × ℕ)) : Type 0 where
  first : (r : ℕ) → r < size a → added_at τ us a r ≡ added_at σ us (Node h a b) (weight h + r)
  second : (r : ℕ) → r < size b → map second_of (replications_below h rs) ++ added_at ρ (binders_below σ h a us) b r ≡ map second_of rs ++ added_at σ us (Node h a b) (weight h + size a + r)
  fits_first : Fits τ us
  fits_second : Fits ρ (binders_below σ h a us)

guards_first : (a b us : Tree) (r : ℕ) → r < size a → added_at Cells us a r ≡ added_at Guards us (Node Cons a b) (0 + r)
guards_first a b us r l =
    let k : nat_lt (0 + r) (size a + size (first b)) ≡ true = lt-ltb _ _ (omega arith) in
    ap₂ (λ c o. cond c (parameters us) [] ++ or_none o) (sym k) (sym (copies_first Cons a b r l))

guarded_first : (a b us : Tree) (r : ℕ) → r < size a → added_at Term us a r ≡ added_at Guarded us (Node Cons a b) (0 + r)
guarded_first a b us r l =
    let k : nat_lt (0 + r) (size a) ≡ true = lt-ltb _ _ (omega arith) in
    ap₂ (λ c o. cond c (parameters us) [] ++ or_none o) (sym k) (sym (copies_first Cons a b r l))

less_both : (k m n : ℕ) → nat_lt (k + m) (k + n) ≡ nat_lt m n
less_both k m n = go (nat_lt m n) refl
  where
    go : (v : Bool) → nat_lt m n ≡ v → nat_lt (k + m) (k + n) ≡ v
    go true e = let l = ltb-true m n e in lt-ltb _ _ (omega arith)
    go false e = let l = ltb-false m n e in le-ltb _ _ (omega arith)

guards_second : (a b us : Tree) (rs : List (ℕ × ℕ)) (r : ℕ) → r < size b → map second_of rs ++ added_at Guarded us b r ≡ map second_of rs ++ added_at Guards us (Node Cons a b) (0 + size a + r)
guards_second a b us rs r l =
    let z : 0 + size a + r ≡ size a + r = omega arith in
    let k : nat_lt (0 + size a + r) (size a + size (first b)) ≡ nat_lt r (size (first b)) = ap (λ n. nat_lt n (size a + size (first b))) z ∙ less_both (size a) r (size (first b)) in
    ap₂ (λ c o. map second_of rs ++ (cond c (parameters us) [] ++ o)) (sym k) (sym (copies_second Cons a b r l))

guarded_second : (a b us : Tree) (rs : List (ℕ × ℕ)) (r : ℕ) → r < size b → map second_of rs ++ added_at Body Empty b r ≡ map second_of rs ++ added_at Guarded us (Node Cons a b) (0 + size a + r)
unfolding parameters
guarded_second a b us rs r l =
    let k : nat_lt (0 + size a + r) (size a) ≡ false = le-ltb _ _ (omega arith) in
    ap₂ (λ c o. map second_of rs ++ (cond c (parameters us) [] ++ o)) (sym k) (sym (copies_second Cons a b r l))

arm_second : (a b us : Tree) (rs : List (ℕ × ℕ)) → us ≡ Empty → (r : ℕ) → r < size b → map second_of rs ++ added_at Guards a b r ≡ map second_of rs ++ added_at Arm us (Node Branch a b) (1 + size a + r)
unfolding parameters
arm_second a b us rs e r l =
    ap (λ o. map second_of rs ++ o) (sym (copies_second Branch a b r l)) ∙ ap (λ z. map second_of rs ++ (parameters z ++ or_none (copies_at (Node Branch a b) (1 + size a + r)))) (sym e)

repl_second : (j n : ℕ) (a b us : Tree) (rs : List (ℕ × ℕ)) → us ≡ Empty → (r : ℕ) → r < size b → map second_of (rs ++ (j, n) ∷ []) ++ added_at Inputs us b r ≡ map second_of rs ++ added_at Inputs us (Node (Repl j n) a b) (1 + size a + r)
unfolding parameters
repl_second j n a b us rs e r l =
    subst (λ z. map second_of (rs ++ (j, n) ∷ []) ++ (parameters z ++ or_none (copies_at b r)) ≡ map second_of rs ++ (parameters z ++ or_none (copies_at (Node (Repl j n) a b) (1 + size a + r)))) (sym e)
    (ap (λ ms. ms ++ or_none (copies_at b r)) (map-append second_of rs ((j, n) ∷ []))
    ∙ (append_assoc (map second_of rs) (n ∷ []) (or_none (copies_at b r)) ∙ ap (λ o. map second_of rs ++ o) (sym (copies_second (Repl j n) a b r l))))

rows : (σ : Phrase) (h : Head) (a b us : Tree) (rs : List (ℕ × ℕ)) (q : Phrase × Phrase) → parts σ h ≡ Some q → Fits σ us → RowAdds σ (parts_of σ h).0 (parts_of σ h).1 h a b us rs
rows Inputs Stop a b us rs q k e = record { first = λ r l. ap (λ o. parameters us ++ or_none o) (sym (copies_first Stop a b r l)); second = λ r l. ap (λ o. map second_of rs ++ (parameters us ++ o)) (sym (copies_second Stop a b r l)); fits_first = tt; fits_second = tt }
rows Inputs Par a b us rs q k e = record { first = λ r l. ap (λ o. parameters us ++ or_none o) (sym (copies_first Par a b r l)); second = λ r l. ap (λ o. map second_of rs ++ (parameters us ++ o)) (sym (copies_second Par a b r l)); fits_first = e; fits_second = e }
rows Inputs (Repl j n) a b us rs q k e = record { first = λ r l. ap (λ o. parameters us ++ or_none o) (sym (copies_first (Repl j n) a b r l)); second = λ r l. repl_second j n a b us rs e r l; fits_first = tt; fits_second = e }
rows Inputs (In d) a b us rs q k e = record { first = λ r l. ap (λ o. parameters us ++ or_none o) (sym (copies_first (In d) a b r l)); second = λ r l. ap (λ o. map second_of rs ++ (parameters us ++ o)) (sym (copies_second (In d) a b r l)); fits_first = tt; fits_second = e }
rows Body Yield a b us rs q k e = record { first = λ r l. ap (λ o. parameters us ++ or_none o) (sym (copies_first Yield a b r l)); second = λ r l. ap (λ o. map second_of rs ++ (parameters us ++ o)) (sym (copies_second Yield a b r l)); fits_first = tt; fits_second = tt }
rows Body (Out d) a b us rs q k e = record { first = λ r l. ap (λ o. parameters us ++ or_none o) (sym (copies_first (Out d) a b r l)); second = λ r l. ap (λ o. map second_of rs ++ (parameters us ++ o)) (sym (copies_second (Out d) a b r l)); fits_first = tt; fits_second = e }
rows Body (New y T) a b us rs q k e = record { first = λ r l. ap (λ o. parameters us ++ or_none o) (sym (copies_first (New y T) a b r l)); second = λ r l. ap (λ o. map second_of rs ++ (parameters us ++ o)) (sym (copies_second (New y T) a b r l)); fits_first = tt; fits_second = e }
rows Body (Let y T) a b us rs q k e = record { first = λ r l. ap (λ o. parameters us ++ or_none o) (sym (copies_first (Let y T) a b r l)); second = λ r l. ap (λ o. map second_of rs ++ (parameters us ++ o)) (sym (copies_second (Let y T) a b r l)); fits_first = tt; fits_second = e }
rows Body (Event y) a b us rs q k e = record { first = λ r l. ap (λ o. parameters us ++ or_none o) (sym (copies_first (Event y) a b r l)); second = λ r l. ap (λ o. map second_of rs ++ (parameters us ++ o)) (sym (copies_second (Event y) a b r l)); fits_first = tt; fits_second = e }
rows Body If a b us rs q k e = record { first = λ r l. ap (λ o. parameters us ++ or_none o) (sym (copies_first If a b r l)); second = λ r l. ap (λ o. map second_of rs ++ (parameters us ++ o)) (sym (copies_second If a b r l)); fits_first = tt; fits_second = e }
rows Body (Find n) a b us rs q k e = record { first = λ r l. ap (λ o. parameters us ++ or_none o) (sym (copies_first (Find n) a b r l)); second = λ r l. ap (λ o. map second_of rs ++ (parameters us ++ o)) (sym (copies_second (Find n) a b r l)); fits_first = e; fits_second = e }
rows Then Cons a b us rs q k e = record { first = λ r l. ap (λ o. parameters us ++ or_none o) (sym (copies_first Cons a b r l)); second = λ r l. ap (λ o. map second_of rs ++ (parameters us ++ o)) (sym (copies_second Cons a b r l)); fits_first = e; fits_second = e }
rows Else Cons a b us rs q k e = record { first = λ r l. ap (λ o. parameters us ++ or_none o) (sym (copies_first Cons a b r l)); second = λ r l. ap (λ o. map second_of rs ++ (parameters us ++ o)) (sym (copies_second Cons a b r l)); fits_first = e; fits_second = tt }
rows Branches Cons a b us rs q k e = record { first = λ r l. ap (λ o. parameters us ++ or_none o) (sym (copies_first Cons a b r l)); second = λ r l. ap (λ o. map second_of rs ++ (parameters us ++ o)) (sym (copies_second Cons a b r l)); fits_first = e; fits_second = e }
rows Arm Branch a b us rs q k e = record { first = λ r l. ap (λ o. parameters us ++ or_none o) (sym (copies_first Branch a b r l)); second = λ r l. arm_second a b us rs e r l; fits_first = tt; fits_second = tt }
rows Guards Cons a b us rs q k e = record { first = λ r l. guards_first a b us r l; second = λ r l. guards_second a b us rs r l; fits_first = tt; fits_second = tt }
rows Guarded Cons a b us rs q k e = record { first = λ r l. guarded_first a b us r l; second = λ r l. guarded_second a b us rs r l; fits_first = tt; fits_second = refl }
rows Pattern Cons a b us rs q k e = record { first = λ r l. ap (λ o. parameters us ++ or_none o) (sym (copies_first Cons a b r l)); second = λ r l. ap (λ o. map second_of rs ++ (parameters us ++ o)) (sym (copies_second Cons a b r l)); fits_first = tt; fits_second = tt }
rows Message Cons a b us rs q k e = record { first = λ r l. ap (λ o. parameters us ++ or_none o) (sym (copies_first Cons a b r l)); second = λ r l. ap (λ o. map second_of rs ++ (parameters us ++ o)) (sym (copies_second Cons a b r l)); fits_first = tt; fits_second = tt }
rows Indices (Name j) a b us rs q k e = record { first = λ r l. ap (λ o. parameters us ++ or_none o) (sym (copies_first (Name j) a b r l)); second = λ r l. ap (λ o. map second_of rs ++ (parameters us ++ o)) (sym (copies_second (Name j) a b r l)); fits_first = tt; fits_second = tt }
rows Binders (Binder y T) a b us rs q k e = record { first = λ r l. ap (λ o. parameters us ++ or_none o) (sym (copies_first (Binder y T) a b r l)); second = λ r l. ap (λ o. map second_of rs ++ (parameters us ++ o)) (sym (copies_second (Binder y T) a b r l)); fits_first = tt; fits_second = tt }
rows Cells Cons a b us rs q k e = record { first = λ r l. ap (λ o. parameters us ++ or_none o) (sym (copies_first Cons a b r l)); second = λ r l. ap (λ o. map second_of rs ++ (parameters us ++ o)) (sym (copies_second Cons a b r l)); fits_first = tt; fits_second = tt }
rows OneCell (Leaf y) a b us rs q k e = record { first = λ r l. ap (λ o. parameters us ++ or_none o) (sym (copies_first (Leaf y) a b r l)); second = λ r l. ap (λ o. map second_of rs ++ (parameters us ++ o)) (sym (copies_second (Leaf y) a b r l)); fits_first = tt; fits_second = tt }
rows OneCell (Read y) a b us rs q k e = record { first = λ r l. ap (λ o. parameters us ++ or_none o) (sym (copies_first (Read y) a b r l)); second = λ r l. ap (λ o. map second_of rs ++ (parameters us ++ o)) (sym (copies_second (Read y) a b r l)); fits_first = tt; fits_second = tt }
rows Terms Cons a b us rs q k e = record { first = λ r l. ap (λ o. parameters us ++ or_none o) (sym (copies_first Cons a b r l)); second = λ r l. ap (λ o. map second_of rs ++ (parameters us ++ o)) (sym (copies_second Cons a b r l)); fits_first = tt; fits_second = tt }
rows Term (Leaf y) a b us rs q k e = record { first = λ r l. ap (λ o. parameters us ++ or_none o) (sym (copies_first (Leaf y) a b r l)); second = λ r l. ap (λ o. map second_of rs ++ (parameters us ++ o)) (sym (copies_second (Leaf y) a b r l)); fits_first = tt; fits_second = tt }
rows Term (Read y) a b us rs q k e = record { first = λ r l. ap (λ o. parameters us ++ or_none o) (sym (copies_first (Read y) a b r l)); second = λ r l. ap (λ o. map second_of rs ++ (parameters us ++ o)) (sym (copies_second (Read y) a b r l)); fits_first = tt; fits_second = tt }
rows Term (Apply f) a b us rs q k e = record { first = λ r l. ap (λ o. parameters us ++ or_none o) (sym (copies_first (Apply f) a b r l)); second = λ r l. ap (λ o. map second_of rs ++ (parameters us ++ o)) (sym (copies_second (Apply f) a b r l)); fits_first = tt; fits_second = tt }
rows Term Eq a b us rs q k e = record { first = λ r l. ap (λ o. parameters us ++ or_none o) (sym (copies_first Eq a b r l)); second = λ r l. ap (λ o. map second_of rs ++ (parameters us ++ o)) (sym (copies_second Eq a b r l)); fits_first = tt; fits_second = tt }
rows Term And a b us rs q k e = record { first = λ r l. ap (λ o. parameters us ++ or_none o) (sym (copies_first And a b r l)); second = λ r l. ap (λ o. map second_of rs ++ (parameters us ++ o)) (sym (copies_second And a b r l)); fits_first = tt; fits_second = tt }
rows Term Or a b us rs q k e = record { first = λ r l. ap (λ o. parameters us ++ or_none o) (sym (copies_first Or a b r l)); second = λ r l. ap (λ o. map second_of rs ++ (parameters us ++ o)) (sym (copies_second Or a b r l)); fits_first = tt; fits_second = tt }
rows Term Not a b us rs q k e = record { first = λ r l. ap (λ o. parameters us ++ or_none o) (sym (copies_first Not a b r l)); second = λ r l. ap (λ o. map second_of rs ++ (parameters us ++ o)) (sym (copies_second Not a b r l)); fits_first = tt; fits_second = tt }
rows Term Yes a b us rs q k e = record { first = λ r l. ap (λ o. parameters us ++ or_none o) (sym (copies_first Yes a b r l)); second = λ r l. ap (λ o. map second_of rs ++ (parameters us ++ o)) (sym (copies_second Yes a b r l)); fits_first = tt; fits_second = tt }
rows Term No a b us rs q k e = record { first = λ r l. ap (λ o. parameters us ++ or_none o) (sym (copies_first No a b r l)); second = λ r l. ap (λ o. map second_of rs ++ (parameters us ++ o)) (sym (copies_second No a b r l)); fits_first = tt; fits_second = tt }
rows σ h a b us rs q k e = absurd (cc)

-- guesses stand one after another

abbrev AreApart : List Spot → Type 0
AreApart [] = Unit {0}
AreApart (s ∷ ss) = AllByRecursion (λ r. s.origin < r.origin) ss × AreApart ss

-- guesses

module _ (x : ℕ) (ps : Places) where
  abbrev False : Phrase → ℕ → Tree → Tree
  False = falsified x ps

  -- a guess of a tree that stands at a place
  record Counted (σ : Phrase) (p : ℕ) (rs : List (ℕ × ℕ)) (us t : Tree) (s : Spot) : Type 0 where
    least : p ≤ s.origin
    below : s.origin < p + size t
    listed : ps s.origin ≡ true
    parameters : parameters_of_spot s ≡ map second_of rs ++ added_at σ us t (s.origin - p)

  from_first : (σ τ ρ : Phrase) (h : Head) (a b us : Tree) (rs : List (ℕ × ℕ)) (p : ℕ) → RowAdds σ τ ρ h a b us rs → (s : Spot) → Counted τ (first_place p h) rs us a s → Counted σ p rs us (Node h a b) s
  unfolding size
  from_first σ τ ρ h a b us rs p row s c =
      let l = c.least in
      let m = c.below in
      let n : weight h + (s.origin - (p + weight h)) ≡ s.origin - p = omega arith in
      record {
        least = omega arith;
        below = omega arith;
        listed = c.listed;
        parameters = c.parameters ∙ (ap (λ o. map second_of rs ++ o) (row.first (s.origin - (p + weight h)) (omega arith)) ∙ ap (λ k. map second_of rs ++ added_at σ us (Node h a b) k) n);
      }

  from_second : (σ τ ρ : Phrase) (h : Head) (a b us : Tree) (rs : List (ℕ × ℕ)) (p : ℕ) → RowAdds σ τ ρ h a b us rs → (s : Spot) → Counted ρ (second_place p h a) (replications_below h rs) (binders_below σ h a us) b s → Counted σ p rs us (Node h a b) s
  unfolding size
  from_second σ τ ρ h a b us rs p row s c =
      let l = c.least in
      let m = c.below in
      let n : weight h + size a + (s.origin - (p + weight h + size a)) ≡ s.origin - p = omega arith in
      record {
        least = omega arith;
        below = omega arith;
        listed = c.listed;
        parameters = c.parameters ∙ (row.second (s.origin - (p + weight h + size a)) (omega arith) ∙ ap (λ k. map second_of rs ++ added_at σ us (Node h a b) k) n);
      }

  -- at the node itself
  counted_here : (p c : ℕ) (rs : List (ℕ × ℕ)) (us a b l r : Tree) → ps p ≡ true → Counted Term p rs us (Node Eq a b) (spot_of x p c rs us a b l r)
  unfolding size copies_at
  counted_here p c rs us a b l r e =
      let n : p - p ≡ 0 = omega arith in
      record {
        least = omega arith;
        below = omega arith;
        listed = e;
        parameters = ap (λ o. map second_of rs ++ o) (sym (append-nil (parameters us))) ∙ ap (λ k. map second_of rs ++ (parameters us ++ or_none (copies_at (Node Eq a b) k))) (sym n);
      }

  counted : (σ : Phrase) (t : Tree) (p q c : ℕ) (rs : List (ℕ × ℕ)) (us : Tree) → is_phrase σ t ≡ true → Fits σ us → AllByRecursion (Counted σ p rs us t) (spots x ps σ p q c rs us t)
  unfolding spots
  counted σ Empty p q c rs us w e = tt
  counted σ (Node h a b) p q c rs us w e =
      let o = open_phrase σ h a b w in
      let row = rows σ h a b us rs o.0 o.1 e in
      let z = children (is_read h) refl o.0 o.1 o.2 o.3 row
      (λ y v f. counted y a (first_place p h) (first_place q h) (construct_below σ q c) rs us v f)
      (λ y v f. counted y b (second_place p h a) (second_place q h (False (parts_of σ h).0 (first_place p h) a)) (construct_below σ q c) (replications_below h rs) (binders_below σ h a us) v f) in
      AllByRecursion_append (Counted σ p rs us (Node h a b)) (cond (is_guess x ps σ p h a b) (here ∷ []) []) _ (go (is_guess x ps σ p h a b) refl)
      (AllByRecursion_append (Counted σ p rs us (Node h a b)) (spots x ps (parts_of σ h).0 (first_place p h) (first_place q h) (construct_below σ q c) rs us a) _ z.0 z.1)
    where
      here : Spot
      here = spot_of x p c rs us a b (False (parts_of σ h).0 (first_place p h) a) (False (parts_of σ h).1 (second_place p h a) b)

      children : (d : Bool) → is_read h ≡ d → (z : Phrase × Phrase) → parts σ h ≡ Some z → is_phrase z.0 a ≡ true → is_phrase z.1 b ≡ true → RowAdds σ (parts_of σ h).0 (parts_of σ h).1 h a b us rs
          → ((y : Phrase) → is_phrase y a ≡ true → Fits y us → AllByRecursion (Counted y (first_place p h) rs us a) (spots x ps y (first_place p h) (first_place q h) (construct_below σ q c) rs us a))
          → ((y : Phrase) → is_phrase y b ≡ true → Fits y (binders_below σ h a us)
          → AllByRecursion (Counted y (second_place p h a) (replications_below h rs) (binders_below σ h a us) b) (spots x ps y (second_place p h a) (second_place q h (False (parts_of σ h).0 (first_place p h) a)) (construct_below σ q c) (replications_below h rs) (binders_below σ h a us) b))
          → AllByRecursion (Counted σ p rs us (Node h a b)) (spots x ps (parts_of σ h).0 (first_place p h) (first_place q h) (construct_below σ q c) rs us a)
          × AllByRecursion (Counted σ p rs us (Node h a b)) (spots x ps (parts_of σ h).1 (second_place p h a) (second_place q h (False (parts_of σ h).0 (first_place p h) a)) (construct_below σ q c) (replications_below h rs) (binders_below σ h a us) b)
      children true n z i u v row ia ib = (
        spots_bare x ps (λ y. false) (Counted σ p rs us (Node h a b)) (parts_of σ h).0 a _ _ _ rs us (bare_read h n).0,
        spots_bare x ps (λ y. false) (Counted σ p rs us (Node h a b)) (parts_of σ h).1 b _ _ _ _ _ (bare_read h n).1,
      )
        where
          bare_read : (k : Head) → is_read k ≡ true → (is_bare (parts_of σ k).0 ≡ true) × (is_bare (parts_of σ k).1 ≡ true)
          bare_read (Read y) n = (refl, refl)
          bare_read k n = absurd (both_ways false refl n)
      children false n z i u v row ia ib =
          let same : parts_of σ h ≡ z = parts_are σ h z n i in (
            AllByRecursion_weaker (Counted (parts_of σ h).0 (first_place p h) rs us a) (Counted σ p rs us (Node h a b)) (from_first σ (parts_of σ h).0 (parts_of σ h).1 h a b us rs p row) _
                (ia (parts_of σ h).0 (subst (λ (y : Phrase × Phrase). is_phrase y.0 a ≡ true) (sym same) u) row.fits_first),
            AllByRecursion_weaker (Counted (parts_of σ h).1 (second_place p h a) (replications_below h rs) (binders_below σ h a us) b) (Counted σ p rs us (Node h a b)) (from_second σ (parts_of σ h).0 (parts_of σ h).1 h a b us rs p row) _
                (ib (parts_of σ h).1 (subst (λ (y : Phrase × Phrase). is_phrase y.1 b ≡ true) (sym same) v) row.fits_second),
          )

      go : (d : Bool) → is_guess x ps σ p h a b ≡ d → AllByRecursion (Counted σ p rs us (Node h a b)) (cond d (here ∷ []) [])
      go false g = tt
      go true g =
          let m = and_parts (is_term σ) _ g in
          let n = and_parts (is_equality h) _ m.1 in
          let is : σ ≡ Term = term_is σ m.0 in
          let ih : h ≡ Eq = equality_is h n.0 in
          (subst (λ (y : Phrase × Head). Counted y.0 p rs us (Node y.1 a b) here) (λ j. (sym is j, sym ih j)) (counted_here p c rs us a b _ _ (and_parts (ps p) _ n.1).0), tt)

  -- guesses stand one after another

  apart_append : (k : ℕ) (ss rs : List Spot) → AreApart ss → AreApart rs → AllByRecursion (λ s. s.origin < k) ss → AllByRecursion (λ r. k ≤ r.origin) rs → AreApart (ss ++ rs)
  apart_append k [] rs a b l m = b
  apart_append k (s ∷ ss) rs a b l m =
      (AllByRecursion_append (λ r. s.origin < r.origin) ss rs a.0 (AllByRecursion_weaker (λ r. k ≤ r.origin) (λ r. s.origin < r.origin) (λ r n. let j = l.0 in omega arith) rs m), apart_append k ss rs a.1 b l.1 m)

  record IsBetween (p n : ℕ) (s : Spot) : Type 0 where
    least : p ≤ s.origin
    below : s.origin < p + n

  between : (σ : Phrase) (t : Tree) (p q c : ℕ) (rs : List (ℕ × ℕ)) (us : Tree) → AllByRecursion (IsBetween p (size t)) (spots x ps σ p q c rs us t) × AreApart (spots x ps σ p q c rs us t)
  unfolding spots size
  between σ Empty p q c rs us = (tt, tt)
  between σ (Node h a b) p q c rs us =
      let ia = between (parts_of σ h).0 a (first_place p h) (first_place q h) (construct_below σ q c) rs us in
      let ib = between (parts_of σ h).1 b (second_place p h a) (second_place q h (False (parts_of σ h).0 (first_place p h) a)) (construct_below σ q c) (replications_below h rs) (binders_below σ h a us) in
      let ra : AllByRecursion (IsBetween p (size (Node h a b))) firsts = AllByRecursion_weaker (IsBetween (first_place p h) (size a)) (IsBetween p (size (Node h a b))) (λ s k. let l = k.least in let m = k.below in record { least = omega arith; below = omega arith }) firsts ia.0 in
      let rb : AllByRecursion (IsBetween p (size (Node h a b))) seconds = AllByRecursion_weaker (IsBetween (second_place p h a) (size b)) (IsBetween p (size (Node h a b))) (λ s k. let l = k.least in let m = k.below in record { least = omega arith; below = omega arith }) seconds ib.0 in
      let both : AreApart (firsts ++ seconds) =
      apart_append (p + weight h + size a) firsts seconds ia.1 ib.1
      (AllByRecursion_weaker (IsBetween (first_place p h) (size a)) (λ s. s.origin < p + weight h + size a) (λ s k. k.below) firsts ia.0)
      (AllByRecursion_weaker (IsBetween (second_place p h a) (size b)) (λ s. p + weight h + size a ≤ s.origin) (λ s k. k.least) seconds ib.0) in
      let above : AllByRecursion (λ s. p + weight h ≤ s.origin) (firsts ++ seconds) =
      AllByRecursion_append (λ s. p + weight h ≤ s.origin) firsts seconds (AllByRecursion_weaker (IsBetween (first_place p h) (size a)) (λ s. p + weight h ≤ s.origin) (λ s k. k.least) firsts ia.0)
      (AllByRecursion_weaker (IsBetween (second_place p h a) (size b)) (λ s. p + weight h ≤ s.origin) (λ s k. let l = k.least in omega arith) seconds ib.0) in
      go (is_guess x ps σ p h a b) refl (AllByRecursion_append (IsBetween p (size (Node h a b))) firsts seconds ra rb) both above
    where
      here : Spot
      here = spot_of x p c rs us a b (False (parts_of σ h).0 (first_place p h) a) (False (parts_of σ h).1 (second_place p h a) b)

      firsts : List Spot
      firsts = spots x ps (parts_of σ h).0 (first_place p h) (first_place q h) (construct_below σ q c) rs us a

      seconds : List Spot
      seconds = spots x ps (parts_of σ h).1 (second_place p h a) (second_place q h (False (parts_of σ h).0 (first_place p h) a)) (construct_below σ q c) (replications_below h rs) (binders_below σ h a us) b

      go : (d : Bool) → is_guess x ps σ p h a b ≡ d → AllByRecursion (IsBetween p (size (Node h a b))) (firsts ++ seconds) → AreApart (firsts ++ seconds) → AllByRecursion (λ s. p + weight h ≤ s.origin) (firsts ++ seconds)
          → AllByRecursion (IsBetween p (size (Node h a b))) (cond d (here ∷ []) [] ++ (firsts ++ seconds)) × AreApart (cond d (here ∷ []) [] ++ (firsts ++ seconds))
      go false g k m n = (k, m)
      go true g k m n =
          let e : weight h ≡ 1 = ap weight (equality_is h (and_parts (is_equality h) _ (and_parts (is_term σ) _ g).1).0) in
          ((record { least = omega arith; below = omega arith }, k), (AllByRecursion_weaker (λ s. p + weight h ≤ s.origin) (λ r. p < r.origin) (λ s l. omega arith) (firsts ++ seconds) n, m))

-- sums over places

-- the list without the first place that is this one
abbrev without_one : ℕ → List ℕ → List ℕ
without_one p [] = []
without_one p (q ∷ qs) = cond (q == p) qs (q ∷ without_one p qs)

sum_taken : (f : ℕ → ℕ) (p : ℕ) (qs : List ℕ) → list_any (λ q. q == p) qs ≡ true → sum_by f qs ≡ f p + sum_by f (without_one p qs)
sum_taken f p [] e = absurd (both_ways false refl e)
sum_taken f p (q ∷ qs) e = go (q == p) refl e (sum_taken f p qs)
  where
    go : (b : Bool) → (q == p) ≡ b → (b || list_any (λ q. q == p) qs) ≡ true → (list_any (λ q. q == p) qs ≡ true → sum_by f qs ≡ f p + sum_by f (without_one p qs)) → sum_by f (q ∷ qs) ≡ f p + sum_by f (cond b qs (q ∷ without_one p qs))
    go true i k ih = sum_by-cons f q qs ∙ ap (λ n. f n + sum_by f qs) (eqb-true q p i)
    go false i k ih =
        let m = ih k in
        let n = sum_by-cons f q (without_one p qs) in
        let z = sum_by-cons f q qs in
        z ∙ (ap (λ j. f q + j) m ∙ (let o : f q + (f p + sum_by f (without_one p qs)) ≡ f p + (f q + sum_by f (without_one p qs)) = omega arith in o) ∙ ap (λ j. f p + j) (sym n))

stays : (p r : ℕ) (qs : List ℕ) → (p ≡ r → ⊥) → list_any (λ q. q == r) qs ≡ true → list_any (λ q. q == r) (without_one p qs) ≡ true
stays p r [] n e = e
stays p r (q ∷ qs) n e = go (q == p) refl (q == r) refl e (stays p r qs n)
  where
    go : (b : Bool) → (q == p) ≡ b → (d : Bool) → (q == r) ≡ d → (d || list_any (λ q. q == r) qs) ≡ true → (list_any (λ q. q == r) qs ≡ true → list_any (λ q. q == r) (without_one p qs) ≡ true) → list_any (λ q. q == r) (cond b qs (q ∷ without_one p qs)) ≡ true
    go true i true k f ih = absurd (n (sym (eqb-true q p i) ∙ eqb-true q r k))
    go true i false k f ih = f
    go false i true k f ih = ap (λ z. z || list_any (λ q. q == r) (without_one p qs)) k
    go false i false k f ih = ap (λ z. z || list_any (λ q. q == r) (without_one p qs)) k ∙ ih f

sum_within : (f : ℕ → ℕ) (ss : List Spot) (qs : List ℕ) → AreApart ss → AllByRecursion (λ s. is_one_of qs s.origin ≡ true) ss → sum_by (λ s. f s.origin) ss ≤ sum_by f qs
sum_within f [] qs a h = omega arith
sum_within f (s ∷ ss) qs a h =
    let later : AllByRecursion (λ r. is_one_of (without_one s.origin qs) r.origin ≡ true) ss = both ss a.0 h.1 in
    let k = sum_within f ss (without_one s.origin qs) a.1 later in
    let m = sum_taken f s.origin qs h.0 in
    let n = sum_by-cons (λ (r : Spot). f r.origin) s ss in
    le_trans (le_of_eq n) (le_trans (let z : f s.origin + sum_by (λ (r : Spot). f r.origin) ss ≤ f s.origin + sum_by f (without_one s.origin qs) = omega arith in z) (le_of_eq (sym m)))
  where
    both : (rs : List Spot) → AllByRecursion (λ r. s.origin < r.origin) rs → AllByRecursion (λ r. is_one_of qs r.origin ≡ true) rs → AllByRecursion (λ r. is_one_of (without_one s.origin qs) r.origin ≡ true) rs
    both [] u v = tt
    both (r ∷ rs) u v = (stays s.origin r.origin qs (λ e. let l = u.0 in omega arith) v.0, both rs u.1 v.1)

sum_mapped : (i : Interpretation) (game : Tree) (ss : List Spot) → AllByRecursion (λ s. parameters_of_spot s ≡ parameters_of game s.origin) ss → sum_by (copies i) (map parameters_of_spot ss) ≡ sum_by (λ (s : Spot). copies i (parameters_of game s.origin)) ss
sum_mapped i game [] h = refl
sum_mapped i game (s ∷ ss) h =
    sum_by-cons (copies i) (parameters_of_spot s) (map parameters_of_spot ss)
    ∙ (ap₂ ◌+◌ (ap (copies i) h.0) (sum_mapped i game ss h.1) ∙ sym (sum_by-cons (λ (r : Spot). copies i (parameters_of game r.origin)) s ss))

places_mapped : (i : Interpretation) (game : Tree) (qs : List ℕ) → sum_by (copies i) (map (parameters_of game) qs) ≡ sum_by (λ q. copies i (parameters_of game q)) qs
places_mapped i game [] = refl
places_mapped i game (q ∷ qs) =
    sum_by-cons (copies i) (parameters_of game q) (map (parameters_of game) qs)
    ∙ (ap (λ n. copies i (parameters_of game q) + n) (places_mapped i game qs) ∙ sym (sum_by-cons (λ q. copies i (parameters_of game q)) q qs))

-- so the copies of all guesses are no more than those of the places
pub copies_of_all : (i : Interpretation) (x : ℕ) (game : Tree) (qs : List ℕ) → is_phrase Inputs game ≡ true → sum_by (copies i) (map parameters_of_spot (spots_of x (is_one_of qs) game)) ≤ sum_by (copies i) (map (parameters_of game) qs)
unfolding parameters
copies_of_all i x game qs w =
    let ss : List Spot = spots_of x (is_one_of qs) game in
    let each = counted x (is_one_of qs) Inputs game 0 0 0 [] Empty w refl in
    let own : AllByRecursion (λ s. parameters_of_spot s ≡ parameters_of game s.origin) ss =
    AllByRecursion_weaker (Counted x (is_one_of qs) Inputs 0 [] Empty game) (λ s. parameters_of_spot s ≡ parameters_of game s.origin) (λ s k. k.parameters ∙ ap (parameters_of game) (let n : s.origin - 0 ≡ s.origin = omega arith in n)) ss each in
    let listed : AllByRecursion (λ s. is_one_of qs s.origin ≡ true) ss = AllByRecursion_weaker (Counted x (is_one_of qs) Inputs 0 [] Empty game) (λ s. is_one_of qs s.origin ≡ true) (λ s k. k.listed) ss each in
    le_trans (le_of_eq (sum_mapped i game ss own))
    (le_trans (sum_within (λ q. copies i (parameters_of game q)) ss qs (between x (is_one_of qs) Inputs game 0 0 0 [] Empty).1 listed) (le_of_eq (sym (places_mapped i game qs))))
