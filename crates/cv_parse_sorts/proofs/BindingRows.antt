-- The rows of processes make trees that define each variable that their uses of names bind.
use Rattle.std.proofs.Common.{◌≡◌, ℕ, zero, suc, Bool, true, false, ◌==◌, ◌&&◌, ◌||◌, not, [], ◌∷◌, List, ◌⊎◌, Option, Some, None, inl, inr, refl, subst}
use Rattle.std.proofs.lemmas.Bool.{both_ways}
use Rattle.cv_syntax_trees.specs.declared.head.Head.TheVariants.{Branch, Cons, Find, In, Let, New, Par}
use Rattle.cv_syntax_trees.specs.Tree.{Tree, Empty, Node, binders, chain, first, second}
use Rattle.cv_parse_notation.specs.declared.sign.Mark.TheVariants as mark
use Rattle.cv_parse_notation.specs.declared.sign.Sign.{Sign}
use Rattle.cv_parse_notation.specs.Form.{deeper, level, may, sign, ◌&◌}
use Rattle.cv_parse_notation.specs.Spells.{IsSort, Relation, Spells, no_sort}
use Rattle.cv_parse_grammar.specs.declared.role.Asked.TheVariants.{AParam}
use Rattle.cv_parse_grammar.specs.declared.role.Role.{Role}
use Rattle.cv_parse_grammar.specs.declared.role.Role.TheVariants.{Asks, BindsVariable}
use Rattle.cv_parse_grammar.specs.Names.{Uses, binds_variable, is_used}
use Rattle.cv_parse_grammar.specs.Phrases.{Phrase, Sort, after, indices, typed, vars}
use Rattle.cv_parse_grammar.specs.Phrases as sort
use Rattle.cv_parse_grammar.specs.Processes.{assignment, beside, branch, continuation, ending, find_in, finding, input, inputs, name_of, otherwise, outgoing, output, pattern, received, receiving, recording, replication, restriction, stops, test, testing, variables, yielding, yields}
use Rattle.cv_parse_grammar.specs.Rules.{heads, rule}
use Rattle.cv_parse_grammar.specs.yields.Yields.{AllUsed}
use Rattle.cv_parse_laws.proofs.roles.UsedRoles.{IsIn, form_uses, has_roles, sort_uses}
use Rattle.cv_parse_sorts.proofs.DefiningTrees.{Binds, Defines}
use Rattle.cv_parse_sorts.proofs.Bindings.{Finds, Has, IsBound, Nowhere, SomeHas, a_variable_word, at_first, at_second, behind, bound_parts, bracketed, follow, in_row, leveled, none_bound, one_of, or_this, several, turned, weaker}

-- the sorts that bind no variable: not those of processes
abbrev is_quiet : Sort → Bool
is_quiet sort.Inputs = false
is_quiet sort.Input = false
is_quiet sort.Output = false
is_quiet sort.Pattern = false
is_quiet sort.Variables = false
is_quiet sort.ProcessBranch = false
is_quiet s = true

abbrev binds_none : Role → Bool
binds_none r = not (binds_variable r)

quiet_rows : (s : Sort) → is_quiet s ≡ true → has_roles binds_none is_quiet (rule s) ≡ true
quiet_rows sort.Inputs e = absurd (both_ways false refl e)
quiet_rows sort.Input e = absurd (both_ways false refl e)
quiet_rows sort.Output e = absurd (both_ways false refl e)
quiet_rows sort.Pattern e = absurd (both_ways false refl e)
quiet_rows sort.Variables e = absurd (both_ways false refl e)
quiet_rows sort.ProcessBranch e = absurd (both_ways false refl e)
quiet_rows sort.Term e = refl
quiet_rows sort.Conjunction e = refl
quiet_rows sort.Primary e = refl
quiet_rows sort.Unequal e = refl
quiet_rows sort.Arguments e = refl
quiet_rows sort.Subscript e = refl
quiet_rows sort.Parentheses e = refl
quiet_rows sort.Sending e = refl
quiet_rows sort.Payload e = refl
quiet_rows sort.Indices e = refl
quiet_rows sort.Cells e = refl
quiet_rows sort.OneCell e = refl
quiet_rows sort.Body e = refl
quiet_rows sort.BodyBranch e = refl
quiet_rows sort.LeftFunction e = refl
quiet_rows sort.RightFunction e = refl
quiet_rows sort.RightRest e = refl
quiet_rows sort.RightSide e = refl
quiet_rows sort.Braces e = refl

not_bound : (x : ℕ) (us : Uses) → AllUsed (IsIn binds_none is_quiet) us → IsBound x us → ⊥
not_bound x [] w e = both_ways false refl e
not_bound x (u ∷ us) w e = go (binds_variable u.role) refl w.0 (not_bound x us w.1)
  where
    go : (b : Bool) → binds_variable u.role ≡ b → not (binds_variable u.role) ≡ true → (IsBound x us → ⊥) → ⊥
    go true i n f = both_ways false refl (subst (λ b. not b ≡ true) i n)
    go false i n f = f (subst (λ b. ((b && (u.name == x)) || is_used binds_variable x us) ≡ true) i e)

-- a phrase without such roles binds none
pub quiet_form : {A : Type 0} (f : Phrase A) → has_roles binds_none is_quiet f ≡ true → (n : ℕ) → Finds (Spells heads true (IsSort heads rule n) f) Nowhere
quiet_form f r n ts a us rest d x e = not_bound x us (form_uses binds_none is_quiet heads true (IsSort heads rule n) (sort_uses binds_none is_quiet heads rule quiet_rows n) f r ts a us rest d) e

-- what the phrases of a sort have
abbrev OfSort : Sort → Tree → ℕ → Type 0
OfSort sort.Inputs t x = Defines t x
OfSort sort.Input t x = Defines t x
OfSort sort.Output t x = Defines t x
OfSort sort.ProcessBranch t x = Defines t x
OfSort sort.Pattern t x = Binds (second t) x
OfSort sort.Variables t x = Binds t x
OfSort s t x = ⊥

among_binders : (l : List (ℕ × ℕ)) (x : ℕ) → SomeHas (λ (b : ℕ × ℕ) y. b.0 ≡ y) l x → Binds (binders l) x
among_binders [] x w = absurd w
among_binders (b ∷ l) x (inl e) = inl e
among_binders (b ∷ l) x (inr w) = inr (among_binders l x w)

among_items : (l : List Tree) (x : ℕ) → SomeHas Defines l x → Defines (chain l) x
unfolding Defines
among_items [] x w = absurd w
among_items (t ∷ l) x (inl w) = inr (tt, inl w)
among_items (t ∷ l) x (inr w) = inr (tt, inr (among_items l x w))

-- the nodes of processes

received_has : (c : ℕ) (l bs t : Tree) (x : ℕ) → Binds bs x ⊎ Defines t x → Defines (Node (In c) (Node Cons l bs) t) x
unfolding Defines
received_has c l bs t x (inl w) = inl w
received_has c l bs t x (inr w) = inr (tt, inr w)

chosen_has : (y T : ℕ) (t : Tree) (x : ℕ) → (y ≡ x) ⊎ Defines t x → Defines (Node (New y T) Empty t) x
unfolding Defines
chosen_has y T t x (inl e) = inl e
chosen_has y T t x (inr w) = inr (tt, inr w)

assigned_has : (y T : ℕ) (m t : Tree) (x : ℕ) → (y ≡ x) ⊎ Defines t x → Defines (Node (Let y T) m t) x
unfolding Defines
assigned_has y T m t x (inl e) = inl e
assigned_has y T m t x (inr w) = inr (tt, inr w)

bodies_have : (c t e : Tree) (x : ℕ) → Defines t x ⊎ Defines e x → Defines (test (c, (t, e))) x
unfolding Defines
bodies_have c t e x (inl w) = inr (tt, inr (inr (tt, inl w)))
bodies_have c t e x (inr w) = inr (tt, inr (inr (tt, inr (inr (tt, inl w)))))

found_has : (k : ℕ) (bs t : Tree) (x : ℕ) → Defines bs x ⊎ Defines t x → Defines (Node (Find k) bs t) x
unfolding Defines
found_has k bs t x (inl w) = inr (tt, inl w)
found_has k bs t x (inr w) = inr (tt, inr w)

branch_has : (l c m t : Tree) (x : ℕ) → Binds l x ⊎ Defines t x → Defines (Node Branch l (Node Cons c (Node Cons m t))) x
unfolding Defines
branch_has l c m t x (inl w) = inl w
branch_has l c m t x (inr w) = inr (tt, inr (inr (tt, inr (inr (tt, inr w)))))

module _ (room : Bool) (below : Sort → Relation Role Tree) (low : (s : Sort) → Finds (below s) (OfSort s)) (quiet : (s : Sort) → is_quiet s ≡ true → (ts : List Sign) (t : Tree) (us : Uses) (rest : List Sign) → below s ts t us rest → AllUsed (IsIn binds_none is_quiet) us) where
  abbrev Makes : {A : Type 0} → Phrase A → (A → ℕ → Type 0) → Type 0
  Makes f D = Has room below f D

  nothing : {A : Type 0} {f : Phrase A} → has_roles binds_none is_quiet f ≡ true → Makes f Nowhere
  nothing {f = f} r = record { finds = λ ts a us rest d x e. not_bound x us (form_uses binds_none is_quiet heads room below quiet f r ts a us rest d) e }

  one_below : {s : Sort} → Makes (deeper s) (OfSort s)
  one_below {s} = record { finds = low s }

  -- a phrase that binds nothing, whatever is asked of its value
  never : {A : Type 0} {f : Phrase A} {D : A → ℕ → Type 0} → has_roles binds_none is_quiet f ≡ true → Makes f D
  never r = weaker (nothing r) (λ a x w. absurd w)

  -- binders

  a_variable : Makes (typed BindsVariable) (λ b x. b.0 ≡ x)
  a_variable = at_first a_variable_word (nothing refl)

  of_vars : Makes (vars BindsVariable) Binds
  of_vars = turned (in_row a_variable) among_binders

  of_variables : Makes variables Binds
  of_variables = bracketed (or_this Empty of_vars)

  of_indices : Makes (indices BindsVariable (Asks AParam)) Binds
  of_indices = turned (in_row (at_first a_variable_word (nothing refl))) among_binders

  -- processes

  of_ending : Makes ending Defines
  of_ending = never refl

  of_replication : Makes replication Defines
  unfolding Defines
  of_replication = leveled (turned (behind (at_second (nothing refl) (behind (at_second (nothing refl) one_below)))) (λ p x w. inr (tt, inr w)))

  of_receiving : Makes receiving Defines
  unfolding Defines
  of_receiving = leveled (turned (behind (follow one_below (behind one_below))) (λ p x w. received_has (name_of p.0) (first p.0) (second p.0) p.1 x w))

  of_input : Makes input Defines
  of_input = one_of of_ending (one_of (bracketed one_below) (one_of of_replication of_receiving))

  of_right : Makes (level (sign mark.Bar) & deeper sort.Inputs) (λ p x. Defines p.1 x)
  of_right = at_second (nothing refl) one_below

  inputs_find : (ts : List Sign) (t : Tree) (o : Option (Tree → Tree)) (us : Uses) (rest : List Sign) → Spells heads room below (input & may false beside) ts (t, o) us rest → (x : ℕ) → IsBound x us → Defines (after t o) x
  unfolding Defines
  inputs_find ts t None us rest d x e =
      elim (bound_parts x us d.front d.back d.uses e) as (λ _. Defines t x) [
        | inl k ↦ of_input.finds ts t d.front d.mid d.first x k
        | inr k ↦ absurd (none_bound x d.back d.second.0.uses k)
      ]
  inputs_find ts t (Some f) us rest d x e =
      let m = d.second in
      subst (λ (g : Tree → Tree). Defines (g t) x) m.2
      (elim (bound_parts x us d.front d.back d.uses e) as (λ _. Defines (Node Par t m.0.1) x) [
        | inl k ↦ inr (tt, inl (of_input.finds ts t d.front d.mid d.first x k))
        | inr k ↦ inr (tt, inr (of_right.finds d.mid m.0 d.back rest m.1 x k))
      ])

  of_inputs : Makes inputs Defines
  of_inputs = record { finds = λ ts t us rest d x e. subst (λ c. Defines c x) d.2 (inputs_find ts d.0.0 d.0.1 us rest d.1 x e) }

  of_received : Makes received Binds
  of_received = one_of one_below (turned a_variable (λ b x e. among_binders (b ∷ []) x (inl e)))

  of_pattern : Makes pattern (λ t x. Binds (second t) x)
  of_pattern = bracketed (turned (at_second (nothing refl) (behind of_received)) (λ p x w. w))

  of_continuation : Makes continuation Defines
  of_continuation = or_this stops (behind one_below)

  of_yielding : Makes yielding Defines
  of_yielding = never refl

  of_outgoing : Makes outgoing Defines
  unfolding Defines
  of_outgoing = leveled (turned (behind (at_second (nothing refl) of_continuation)) (λ p x w. inr (tt, inr w)))

  of_restriction : Makes restriction Defines
  unfolding Defines
  of_restriction = leveled (turned (behind (follow a_variable (behind one_below))) (λ p x w. chosen_has p.0.0 p.0.1 p.1 x w))

  of_assignment : Makes assignment Defines
  unfolding Defines
  of_assignment = leveled (turned (behind (follow a_variable (behind (at_second (nothing refl) (behind one_below))))) (λ p x w. assigned_has p.0.0 p.0.1 p.1.0 p.1.1 x w))

  of_recording : Makes recording Defines
  unfolding Defines
  of_recording = leveled (turned (behind (at_second (nothing refl) (at_second (nothing refl) (behind one_below)))) (λ p x w. inr (tt, inr w)))

  of_otherwise : Makes otherwise Defines
  of_otherwise = or_this yields (behind one_below)

  of_testing : Makes testing Defines
  unfolding Defines
  of_testing = leveled (turned (behind (at_second (nothing refl) (behind (follow one_below of_otherwise)))) (λ p x w. bodies_have p.0 p.1.0 p.1.1 x w))

  of_branches : Makes (find_in sort.ProcessBranch) (λ b x. Defines b.1 x)
  of_branches = turned (at_second (nothing refl) (at_second (nothing refl) (follow one_below (several (behind one_below))))) (λ p x w. among_items (p.1.1.0 ∷ p.1.1.1) x w)

  of_finding : Makes finding Defines
  unfolding Defines
  of_finding = leveled (turned (follow of_branches of_otherwise) (λ p x w. found_has p.0.0 p.0.1 p.1 x w))

  of_branch : Makes branch Defines
  unfolding Defines
  of_branch = leveled (turned (follow (or_this Empty of_indices) (behind (at_second (nothing refl) (behind one_below)))) (λ p x w. branch_has p.0 p.1.0.0 p.1.0.1 p.1.1 x w))

  of_output : Makes output Defines
  of_output =
      one_of of_yielding
      (one_of (bracketed one_below)
      (one_of of_outgoing
      (one_of of_restriction
      (one_of of_assignment
      (one_of of_recording
      (one_of of_testing of_finding))))))

  quiet_sort : (s : Sort) → is_quiet s ≡ true → Finds (Spells heads room below (rule s)) Nowhere
  quiet_sort s e = (nothing {f = rule s} (quiet_rows s e)).finds

  rows : (s : Sort) → Finds (Spells heads room below (rule s)) (OfSort s)
  rows sort.Inputs = of_inputs.finds
  rows sort.Input = of_input.finds
  rows sort.Output = of_output.finds
  rows sort.Pattern = of_pattern.finds
  rows sort.Variables = of_variables.finds
  rows sort.ProcessBranch = of_branch.finds
  rows s = quiet_sort s refl

sorts_find : (n : ℕ) (s : Sort) → Finds (IsSort heads rule n s) (OfSort s)
unfolding IsSort
sorts_find zero s ts t us rest d x e = rows false no_sort (λ s ts t us rest k x e. absurd k) (λ s k ts t us rest d. absurd d) s ts t us rest d x e
sorts_find (suc n) s ts t us rest d x e = rows true (IsSort heads rule n) (sorts_find n) (sort_uses binds_none is_quiet heads rule quiet_rows n) s ts t us rest d x e

pub process_defines : (n : ℕ) (ts : List Sign) (t : Tree) (us : Uses) (rest : List Sign) → Spells heads true (IsSort heads rule n) inputs ts t us rest → (x : ℕ) → IsBound x us → Defines t x
process_defines n ts t us rest d x e = (of_inputs true (IsSort heads rule n) (sorts_find n) (sort_uses binds_none is_quiet heads rule quiet_rows n)).finds ts t us rest d x e
