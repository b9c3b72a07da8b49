-- Terms that are typed name functions, constants and variables that are bound above alone.
use Rattle.std.proofs.Common.{◌≡◌, ℕ, ◌+◌, Bool, true, false, cond, ◌==◌, ◌||◌, List, [], ◌∷◌, ◌++◌, length, ◌⊎◌, inl, inr, Option, Some, None, option_map, refl, ap, ap₂, sym, subst, ◌∙◌, arith, eqb-true}
use Rattle.std.proofs.lemmas.Bool.{both_ways, or_left, or_right}
use Rattle.cv_syntax_trees.specs.declared.class.Class.TheVariants as class
use Rattle.cv_syntax_trees.specs.declared.head.Head.{Head}
use Rattle.cv_syntax_trees.specs.declared.head.Head.TheVariants.{Leaf, Read, Apply, Eq, And, Or, Not, Yes, No, Cons}
use Rattle.cv_syntax_trees.specs.Declarations.{Declaration, Named}
use Rattle.cv_syntax_trees.specs.Tree.{Tree, Empty, Node, binders, bound_names, names}
use Rattle.cv_parse_notation.specs.declared.sign.Sign.{Sign}
use Rattle.cv_parse_grammar.specs.declared.role.Asked.TheVariants.{AFunction}
use Rattle.cv_parse_grammar.specs.Files.{levels}
use Rattle.cv_parse_grammar.specs.Names.{Uses, declares_as, is_used}
use Rattle.cv_parse_grammar.specs.Whole.{IsRead, built_in}
use Rattle.cv_parse_grammar.proofs.Identities.{declared_names, ids_are_distinct}
use Rattle.cv_parse.specs.Parsed.{bool_type}
use Rattle.cv_meaning.specs.Interpretation.{is_constant_of}
use Rattle.cv_meaning_laws.proofs.Listed.{Has}
use Rattle.cv_scope_rules.specs.declared.typing.fault.Fault.TheVariants.{WrongType, Arity}
use Rattle.cv_scope_rules.specs.declared.typing.precedence.Precedence.TheVariants.{First}
use Rattle.cv_syntax_trees.specs.declared.sites.sort.Sort.{Sort}
use Rattle.cv_syntax_trees.specs.declared.sites.sort.Sort.TheVariants.{OfType}
use Rattle.cv_syntax_trees.specs.sites.Sites.{first_of}
use Rattle.cv_scope_rules.specs.typing.Parts.{AreTyped, Part, local_names, nothing_above}
use Rattle.cv_scope_rules.specs.typing.Signature.{Above, Function, OfNothing, Signature, arity_by, function_by, function_in, is_arity, names_in, sort_by}
use Rattle.cv_syntax_trees.specs.sites.Counting.{count}
use Rattle.cv_scope_rules.specs.typing.Typing.{IsTyped, fault_of, site_differs, value_fault}
use Rattle.cv_scope_rules.specs.typing.Wants.{Want, all_bound, bound, is_wrong}
use Rattle.cv_syntax.specs.faults.Walk.{IsObeyed}
use Rattle.cv_derive_laws.specs.stores.Truth.{AreOver, IsOver, is_name_of}
use Rattle.cv_parse_laws.proofs.roles.Constants.{is_constant, kind_of, only_declaration}
use Rattle.cv_parse_laws.proofs.roles.Declared.{Used, function_declared}
use Rattle.cv_parse_sorts.proofs.Terms.{AreTermsOver, IsTermOver}
use Rattle.cv_parse_laws.proofs.roles.Games.{kinds}

-- a function that is declared, which is a constant where it has no arguments
abbrev pub IsFunction : List Declaration → ℕ → Type 0
IsFunction ds x = (f : Function) × (function_in ds x ≡ Some f) × (f.arguments ≡ [] → is_constant_of ds x ≡ true)

module _ (ds : List Declaration) (own known : ℕ → Type 0) (above : Above) (bound_above : (x : ℕ) (S : Sort) → above x ≡ Some S → own x) (functions : (x : ℕ) → known x → IsFunction ds x) where
  abbrev e : Signature
  e = record { declarations = ds; arrays = OfNothing }

  abbrev Closed : ℕ → Type 0
  Closed x = own x ⊎ (is_constant_of ds x ≡ true)

  has_arity : (w : Want) (h : Head) (a : Tree) → fault_of e above w h a ≡ None → is_arity (arity_by e above h) (count a) ≡ true
  has_arity w h a k = go (is_wrong w (sort_by e above h a) || site_differs OfNothing h a) (is_arity (arity_by e above h) (count a)) k
    where
      go : (u v : Bool) → cond u (Some WrongType) (cond v (value_fault e w (sort_by e above h a) h) (Some Arity)) ≡ None → v ≡ true
      go true v k = absurd (cc)
      go false true k = refl
      go false false k = absurd (cc)

  none_left : (l : List ℕ) → (length l == 0) ≡ true → l ≡ []
  none_left [] k = refl
  none_left (x ∷ l) k = absurd (let n : length (x ∷ l) ≡ 0 = eqb-true (length (x ∷ l)) 0 k in omega arith)

  abbrev arity_of : Option Sort → Option Function → Option ℕ
  arity_of o p = elim o [ Some S ↦ None | None ↦ option_map (λ (f : Function). length f.arguments) p ]

  leaf_closed : (x : ℕ) → is_arity (arity_by e above (Leaf x)) 0 ≡ true → own x ⊎ known x → Closed x
  leaf_closed x k (inl n) = inl n
  leaf_closed x k (inr n) = go (above x) refl (functions x n)
    where
      go : (o : Option Sort) → above x ≡ o → IsFunction ds x → Closed x
      go (Some S) f y = inl (bound_above x S f)
      go None f y = inr (y.2 (none_left y.0.arguments (sym (ap₂ (λ o p. is_arity (arity_of o p) 0) f y.1) ∙ k)))

  no_indices : (a : Tree) → (0 == count a) ≡ true → (h : Head) (b c : Tree) → a ≡ Node h b c → ⊥
  unfolding count
  no_indices Empty k h b c i = absurd (cc)
  no_indices (Node g d f) k h b c i = let n : 0 ≡ count f + 1 = eqb-true 0 (count f + 1) k in omega arith

  mutual
    unfolding IsObeyed count

    pub term_closed : (t : Tree) (w : Want) → IsTyped e above w t → IsTermOver (λ x. own x ⊎ known x) t → IsOver Closed ⊥ t
    term_closed Empty w k n = absurd n
    term_closed (Node (Leaf x) Empty b) w k n = leaf_closed x (has_arity w (Leaf x) Empty k.0) n
    term_closed (Node (Leaf x) (Node h a c) b) w k n = absurd n
    term_closed (Node (Read x) Empty b) w k n = absurd n
    term_closed (Node (Read x) (Node h a c) b) w k n = absurd (no_indices (Node h a c) (has_arity w (Read x) (Node h a c) k.0) h a c refl)
    term_closed (Node (Apply f) a b) w k n = terms_closed a _ k.1 n
    term_closed (Node Eq a b) w k n = (term_closed a _ k.1 n.0, term_closed b _ k.2 n.1)
    term_closed (Node And a b) w k n = (term_closed a _ k.1 n.0, term_closed b _ k.2 n.1)
    term_closed (Node Or a b) w k n = (term_closed a _ k.1 n.0, term_closed b _ k.2 n.1)
    term_closed (Node Not a b) w k n = term_closed a _ k.1 n
    term_closed (Node Yes a b) w k n = tt
    term_closed (Node No a b) w k n = tt
    term_closed (Node h a b) w k n = absurd n

    pub terms_closed : (t : Tree) (w : Want) → IsTyped e above w t → AreTermsOver (λ x. own x ⊎ known x) t → AreOver Closed ⊥ t
    terms_closed Empty w k n = tt
    terms_closed (Node Cons a b) w k n = (term_closed a _ k.1 n.0, terms_closed b _ k.2 n.1)
    terms_closed (Node h a b) w k n = absurd n

-- the variables of an equation are the names above its term
pub named_above : (above : Above) (bs : List (ℕ × ℕ)) (x : ℕ) (S : Sort) → all_bound First above OfType (binders bs) x ≡ Some S → (is_name_of (bound_names (binders bs)) x ≡ true) ⊎ ((R : Sort) × (above x ≡ Some R))
unfolding all_bound
named_above above [] x S k = inr (S, k)
named_above above (b ∷ bs) x S k = go (named_above (bound First above b.0 (OfType b.1)) bs x S k)
  where
    first : (R : Sort) → (v : Bool) → (b.0 == x) ≡ v → bound First above b.0 (OfType b.1) x ≡ Some R → ((b.0 == x) || is_name_of (bound_names (binders bs)) x) ≡ true ⊎ ((R : Sort) × (above x ≡ Some R))
    first R true i k = inl (or_left (b.0 == x) _ i)
    first R false i k = inr (R, sym (ap (λ v. cond v (first_of (above b.0) (Some (OfType b.1))) (above x)) i) ∙ k)

    go : (is_name_of (bound_names (binders bs)) x ≡ true) ⊎ ((R : Sort) × (bound First above b.0 (OfType b.1) x ≡ Some R)) → ((b.0 == x) || is_name_of (bound_names (binders bs)) x) ≡ true ⊎ ((R : Sort) × (above x ≡ Some R))
    go (inl i) = inl (or_right (b.0 == x) _ i)
    go (inr (R, i)) = first R (b.0 == x) refl i

pub named_locally : (bs : List (ℕ × ℕ)) (x : ℕ) (S : Sort) → local_names (binders bs) x ≡ Some S → is_name_of (bound_names (binders bs)) x ≡ true
named_locally bs x S k = go (named_above nothing_above bs x S k)
  where
    go : (is_name_of (bound_names (binders bs)) x ≡ true) ⊎ ((R : Sort) × (nothing_above x ≡ Some R)) → is_name_of (bound_names (binders bs)) x ≡ true
    go (inl i) = i
    go (inr (R, i)) = absurd (cc)

-- parts of lists of parts
pub typed_split : (ds : List Declaration) (xs ys : List Part) → AreTyped ds (xs ++ ys) → AreTyped ds xs × AreTyped ds ys
unfolding AreTyped
typed_split ds [] ys h = (tt, h)
typed_split ds (x ∷ xs) ys h = let r = typed_split ds xs ys h.1 in ((h.0, r.0), r.1)

module _ (ts : List Sign) (ds : List Declaration) (s : Option (ℕ × ℕ)) (g : Tree) (r : IsRead ts ds s g) where
  abbrev pub W : Uses
  W = built_in ∷ r.uses

  abbrev pub D : List Declaration
  D = bool_type ∷ ds

  abbrev pub IsUsed : ℕ → Type 0
  IsUsed x = is_used (declares_as AFunction) x (W) ≡ true

  pub used_functions : (x : ℕ) → IsUsed x → IsFunction D x
  used_functions x k = go (function_declared r.uses ds r.named (declared_names levels ts (record { decls = ds; script = s; game = r.text }) r.uses r.spelled) (kinds ts ds s g r) x k)
    where
      go : ((data_like : Bool) × (arguments : Tree) × (result : Option ℕ) × Has ds (Named x (class.Fun data_like) arguments result)) → IsFunction D x
      go (d, arguments, None, h) = absurd (both_ways false refl (kind_of (Used (W)) ds (kinds ts ds s g r) (Named x (class.Fun d) arguments None) h).2)
      go (d, arguments, Some T, h) =
          let o = only_declaration D (ids_are_distinct ts ds s g r) x (class.Fun d) arguments (Some T) (inr h) in
          let k = kind_of (Used (W)) ds (kinds ts ds s g r) (Named x (class.Fun d) arguments (Some T)) h in
          (record { arguments = names_in arguments; result = T }, ap function_by o, λ n. is_constant ds x d (Some T) (subst (λ z. Has ds (Named x (class.Fun d) z (Some T))) (k.1 ∙ ap names n) h))
