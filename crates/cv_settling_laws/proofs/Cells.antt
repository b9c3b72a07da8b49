-- Cells of variables at the indices of replications, and terms and cells below one replication more.
use Rattle.std.proofs.Common.{◌≡◌, ℕ, suc, ◌+◌, ◌==◌, Bool, true, false, ◌||◌, not, List, [], ◌∷◌, ◌++◌, length, Option, Some, None, is_some, refl, sym, ap, subst, ◌∙◌, arith, eq-eqb, eqb-true, inl, inr}
use Rattle.std.specs.Prelude.{◌⊎◌, option_map}
use Rattle.std.specs.List.{AllByRecursion}
use Rattle.std.proofs.lemmas.Bool.{and_from, and_parts, both_ways, or_cases, or_left, or_right}
use Rattle.cv_syntax_trees.specs.declared.head.Head.TheVariants.{Leaf, Read}
use Rattle.cv_syntax_trees.specs.Tree.{Tree, Empty, Node}
use Rattle.cv_syntax_trees.specs.declared.sites.sort.Sort.{Sort}
use Rattle.cv_syntax_trees.specs.declared.sites.sort.Sort.TheVariants.{BelowParameter, OfType}
use Rattle.cv_syntax_trees.specs.sites.Counting.{count}
use Rattle.cv_syntax_trees.specs.sites.Sites.{Variable, first_of, first_site}
use Rattle.cv_syntax_trees.proofs.lists.Each.{AllByRecursion_append, AllByRecursion_weaker}
use Rattle.cv_syntax_trees.proofs.lists.Places.{length_map}
use Rattle.cv_syntax.specs.faults.Walk.{IsObeyed}
use Rattle.cv_meaning.specs.Interpretation.{is_constant_of}
use Rattle.cv_scope_rules.specs.Context.{cell_of, index_terms}
use Rattle.cv_scope_rules.specs.Phrases.{OneCell, Term, Terms, is_phrase}
use Rattle.cv_scope_rules.specs.Rules.{is_index}
use Rattle.cv_scope_rules.specs.declared.typing.precedence.Precedence.TheVariants.{First}
use Rattle.cv_scope_rules.specs.typing.Parts.{nothing_above}
use Rattle.cv_scope_rules.specs.typing.Signature.{Function, defined_sort, function_in, index_in, is_arity, leaf_sort, sort_of}
use Rattle.cv_scope_rules.specs.typing.Typing.{IsTyped}
use Rattle.cv_scope_rules.specs.typing.Wants.{AnyTerm, Indices, Of, asks_indices, bound, is_index_sent, is_wrong}
use Rattle.cv_typing_runs.specs.Games.{HasArguments, is_variable_cell, parameters_of}
use Rattle.cv_typing_runs.proofs.Declared.{function_constant}
use Rattle.cv_scene.specs.Scenes.{Scene}
use Rattle.cv_scene.specs.Sights.{is_cell_under}
use Rattle.cv_scene.specs.Terms.{above_under, has_site, head_is_there, is_function, is_there, names_under, signature_in}
use Rattle.cv_scene.specs.lines.Given.{with_given}
use Rattle.cv_scope_rules.proofs.typing.First.{none_where_typed}
use Rattle.cv_derive_laws.proofs.reached.Leaves.{index_more}
use Rattle.cv_settling_laws.proofs.Indices.{above_last, bound_kept, bound_new, bound_other, index_none, index_some, some_index}
use Rattle.cv_settling_laws.proofs.Terms.{AreTerms, IsBare, IsPut, any_right, any_sent, are_put, no_fault, with_none}

-- each index is bound as in the list, and no variable and no constant has its name
pub record IsClear (s : Scene) (rs : List (ℕ × ℕ)) : Type 0 where
  pub bounds : AllByRecursion (λ (r : ℕ × ℕ). above_under rs r.0 ≡ Some (BelowParameter r.1)) rs
  pub variables : (x : ℕ) → has_site s.game x ≡ true → above_under rs x ≡ None
  pub constants : (x : ℕ) → is_constant_of s.declarations x ≡ true → above_under rs x ≡ None

pub clear_nothing : (s : Scene) → IsClear s []
clear_nothing s = record { bounds = tt; variables = λ x e. refl; constants = λ x e. refl }

pub other_name : (passes : ℕ → Bool) (i x : ℕ) → passes i ≡ false → passes x ≡ true → (i == x) ≡ false
other_name passes i x e f = go (i == x) refl
  where
    go : (b : Bool) → (i == x) ≡ b → b ≡ false
    go true k = absurd (both_ways (passes x) (ap passes (sym (eqb-true i x k)) ∙ e) f)
    go false k = refl

last_above : (rs : List (ℕ × ℕ)) (i n x : ℕ) → above_under (rs ++ (i, n) ∷ []) x ≡ bound First (above_under rs) i (BelowParameter n) x
last_above rs i n x = ap (λ (f : ℕ → Option Sort). f x) (above_last rs nothing_above i n)

pub clear_more : (s : Scene) (rs : List (ℕ × ℕ)) (i n : ℕ) → is_index rs i ≡ false → has_site s.game i ≡ false → is_constant_of s.declarations i ≡ false → IsClear s rs → IsClear s (rs ++ (i, n) ∷ [])
clear_more s rs i n e v c k = record {
  bounds = AllByRecursion_append (λ (r : ℕ × ℕ). above_under (rs ++ (i, n) ∷ []) r.0 ≡ Some (BelowParameter r.1)) rs ((i, n) ∷ [])
      (AllByRecursion_weaker (λ (r : ℕ × ℕ). above_under rs r.0 ≡ Some (BelowParameter r.1)) (λ (r : ℕ × ℕ). above_under (rs ++ (i, n) ∷ []) r.0 ≡ Some (BelowParameter r.1)) (λ r z. last_above rs i n r.0 ∙ bound_kept (above_under rs) i (BelowParameter n) r.0 (BelowParameter r.1) z) rs k.bounds)
      (last_above rs i n i ∙ bound_new (above_under rs) i (BelowParameter n) i (eq-eqb i i refl) (index_none rs nothing_above i e), tt);
  variables = λ x z. last_above rs i n x ∙ (bound_other (above_under rs) i (BelowParameter n) x (other_name (has_site s.game) i x v z) ∙ k.variables x z);
  constants = λ x z. last_above rs i n x ∙ (bound_other (above_under rs) i (BelowParameter n) x (other_name (is_constant_of s.declarations) i x c z) ∙ k.constants x z);
}

-- how many indices or arguments a bare name takes
abbrev pub arity_from : Option Sort → Option Variable → Option Function → Option ℕ
arity_from o u q = elim o [ Some S ↦ None | None ↦ first_of (option_map (λ (v : Variable). length v.parameters) u) (option_map (λ (f : Function). length f.arguments) q) ]

none_long : (xs : List ℕ) → (length xs == 0) ≡ true → xs ≡ []
none_long [] e = refl
none_long (x ∷ xs) e = let f : suc (length xs) ≡ 0 = eqb-true (length (x ∷ xs)) 0 e in absurd (omega arith)

-- a bare name that is no index is that of a variable or of a constant
pub bare_kind : (s : Scene) (rs : List (ℕ × ℕ)) (x : ℕ) → HasArguments s.declarations → IsBare s rs x → above_under rs x ≡ None → (has_site s.game x ≡ true) ⊎ (is_constant_of s.declarations x ≡ true)
bare_kind s rs x given b e = index (or_cases (is_index rs x) _ b.there)
  where
    arity : (u : Option Variable) (q : Option Function) → first_site x [] s.game ≡ u → function_in s.declarations x ≡ q → is_arity (arity_from None u q) 0 ≡ true
    arity u q i j = sym (λ k. is_arity (arity_from (e k) (i k) (j k)) 0) ∙ b.arity

    named : (u : Option Variable) (q : Option Function) → first_site x [] s.game ≡ u → function_in s.declarations x ≡ q → (is_some q ≡ true) ⊎ (is_some u ≡ true) → (has_site s.game x ≡ true) ⊎ (is_constant_of s.declarations x ≡ true)
    named (Some v) q i j n = inl (ap is_some i)
    named None (Some f) i j n = inr (function_constant s.declarations x f given j (none_long f.arguments (arity None (Some f) i j)))
    named None None i j (inl n) = absurd (both_ways false refl n)
    named None None i j (inr n) = absurd (both_ways false refl n)

    index : (is_index rs x ≡ true) ⊎ ((is_function s.declarations x || has_site s.game x) ≡ true) → (has_site s.game x ≡ true) ⊎ (is_constant_of s.declarations x ≡ true)
    index (inl i) = absurd (both_ways (is_some (above_under rs x)) (ap is_some e) (index_some rs nothing_above x i))
    index (inr n) = named (first_site x [] s.game) (function_in s.declarations x) refl refl (or_cases (is_function s.declarations x) _ n)

-- below one replication more

module _ (s : Scene) (given : HasArguments s.declarations) (rs : List (ℕ × ℕ)) (i n : ℕ) (k : IsClear s (rs ++ (i, n) ∷ [])) where
  abbrev more : List (ℕ × ℕ)
  more = rs ++ (i, n) ∷ []

  same_above : (x : ℕ) → IsBare s rs x → above_under more x ≡ above_under rs x
  same_above x b = go (above_under rs x) refl (i == x) refl
    where
      clash : (c : (i == x) ≡ true) (e : above_under rs x ≡ None) → (has_site s.game x ≡ true) ⊎ (is_constant_of s.declarations x ≡ true) → ⊥
      clash c e (inl v) = let z : None ≡ Some (BelowParameter n) = sym (k.variables x v) ∙ (last_above rs i n x ∙ bound_new (above_under rs) i (BelowParameter n) x c e) in cc
      clash c e (inr v) = let z : None ≡ Some (BelowParameter n) = sym (k.constants x v) ∙ (last_above rs i n x ∙ bound_new (above_under rs) i (BelowParameter n) x c e) in cc

      go : (o : Option Sort) → above_under rs x ≡ o → (c : Bool) → (i == x) ≡ c → above_under more x ≡ above_under rs x
      go (Some S) e c f = last_above rs i n x ∙ (bound_kept (above_under rs) i (BelowParameter n) x S e ∙ sym e)
      go None e false f = last_above rs i n x ∙ bound_other (above_under rs) i (BelowParameter n) x f
      go None e true f = absurd (clash f e (bare_kind s rs x given b e))

  head_more : (x : ℕ) → head_is_there (names_under s rs) Term (Leaf x) ≡ true → head_is_there (names_under s more) Term (Leaf x) ≡ true
  head_more x e = go (or_cases (is_index rs x) _ e)
    where
      go : (is_index rs x ≡ true) ⊎ ((is_function s.declarations x || has_site s.game x) ≡ true) → head_is_there (names_under s more) Term (Leaf x) ≡ true
      go (inl j) = or_left (is_index more x) _ (index_more rs ((i, n) ∷ []) x j)
      go (inr j) = or_right (is_index more x) _ j

  name_is_kept : (x : ℕ) → IsBare s rs x → IsPut s rs more [] Empty x
  unfolding is_phrase is_there IsObeyed with_given count
  name_is_kept x b = record {
    term = record {
      phrase = refl;
      there = and_from (head_is_there (names_under s more) Term (Leaf x)) _ (head_more x b.there) refl;
      typed = (no_fault (signature_in s) (above_under more) AnyTerm (Leaf x) Empty (any_right (leaf_sort (signature_in s) (above_under more) x)) refl (ap (λ o. is_arity (arity_from o (first_site x [] s.game) (function_in s.declarations x)) 0) (same_above x b) ∙ b.arity) (any_sent (leaf_sort (signature_in s) (above_under more) x)) refl, tt, tt);
    };
    sort = ap (λ o. first_of o (first_of (defined_sort (signature_in s).arrays x) (first_of (option_map (λ (f : Function). OfType f.result) (function_in s.declarations x)) (option_map BelowParameter (index_in (signature_in s).arrays x))))) (same_above x b);
  }

  pub weaker : (is_one : Bool) (w : _) (t : Tree) → AreTerms s rs is_one w t → AreTerms s more is_one w t
  weaker is_one w t z = subst (AreTerms s more is_one w) (with_none Empty t) (are_put s rs more [] Empty name_is_kept is_one w t z).0

-- cells

pub record IsCell (s : Scene) (rs : List (ℕ × ℕ)) (c : Tree) : Type 0 where
  pub phrase : is_phrase OneCell c ≡ true
  pub variable : is_variable_cell (has_site s.game) c ≡ true
  pub term : AreTerms s rs true AnyTerm c

pub weaker_cell : (s : Scene) → HasArguments s.declarations → (rs : List (ℕ × ℕ)) (i n : ℕ) → IsClear s (rs ++ (i, n) ∷ []) → (c : Tree) → IsCell s rs c → IsCell s (rs ++ (i, n) ∷ []) c
weaker_cell s given rs i n k c z = record { phrase = z.phrase; variable = z.variable; term = weaker s given rs i n k true AnyTerm c z.term }

cell_there : (s : Scene) (rs : List (ℕ × ℕ)) (c : Tree) → is_phrase OneCell c ≡ true → is_variable_cell (has_site s.game) c ≡ true → is_there (names_under s rs) Term c ≡ true → is_there (names_under s rs) OneCell c ≡ true
unfolding is_phrase is_there
cell_there s rs Empty p v e = refl
cell_there s rs (Node (Leaf x) a b) p v e = and_from (has_site s.game x) _ v (and_parts (head_is_there (names_under s rs) Term (Leaf x)) _ e).1
cell_there s rs (Node (Read x) a b) p v e = e
cell_there s rs (Node h a b) p v e = absurd (both_ways false refl p)

pub cell_under : (s : Scene) (rs : List (ℕ × ℕ)) (c : Tree) → IsCell s rs c → is_cell_under s rs c ≡ true
cell_under s rs c k =
    and_from (is_phrase OneCell c) _ k.phrase
    (and_from (is_there (names_under s rs) OneCell c) _ (cell_there s rs c k.phrase k.variable k.term.there)
    (ap (λ o. not (is_some o)) (none_where_typed (signature_in s) (above_under rs) AnyTerm 0 c k.term.typed)))

-- the cell of a variable at the indices of its replications

count_terms : (rs : List (ℕ × ℕ)) → count (index_terms rs) ≡ length rs
unfolding count
count_terms [] = refl
count_terms (r ∷ rs) = ap (λ n. n + 1) (count_terms rs) ∙ (let e : length rs + 1 ≡ suc (length rs) = omega arith in e)

same_number : (n : ℕ) → not (n == n) ≡ false
same_number n = ap not (eq-eqb n n refl)

terms_typed : (s : Scene) (rs ss : List (ℕ × ℕ)) → AllByRecursion (λ (r : ℕ × ℕ). above_under rs r.0 ≡ Some (BelowParameter r.1)) ss → AreTerms s rs false (Indices (parameters_of ss)) (index_terms ss)
unfolding is_phrase is_there IsObeyed count
terms_typed s rs [] k = record { phrase = refl; there = refl; typed = tt }
terms_typed s rs (r ∷ ss) k =
    let more = terms_typed s rs ss k.1 in
    let S : Option Sort = Some (BelowParameter r.1) in
    let sort : leaf_sort (signature_in s) (above_under rs) r.0 ≡ S = ap (λ o. first_of o (first_of (defined_sort (signature_in s).arrays r.0) (first_of (option_map (λ (f : Function). OfType f.result) (function_in s.declarations r.0)) (option_map BelowParameter (index_in (signature_in s).arrays r.0))))) k.0 in
    record {
      phrase = more.phrase;
      there = and_from _ _ (and_from (head_is_there (names_under s rs) Term (Leaf r.0)) _ (or_left (is_index rs r.0) _ (some_index rs r.0 (BelowParameter r.1) k.0)) refl) more.there;
      typed = (refl, (no_fault (signature_in s) (above_under rs) (Of (BelowParameter r.1)) (Leaf r.0) Empty (ap (is_wrong (Of (BelowParameter r.1))) sort ∙ same_number r.1) refl (ap (λ o. is_arity (arity_from o (first_site r.0 [] s.game) (function_in s.declarations r.0)) 0) k.0) (ap (is_index_sent (Of (BelowParameter r.1))) sort) refl, tt, tt), more.typed);
    }

pub own_cell : (s : Scene) (rs : List (ℕ × ℕ)) (x : ℕ) (v : Variable) → IsClear s rs → first_site x [] s.game ≡ Some v → v.parameters ≡ parameters_of rs → IsCell s rs (cell_of rs x) × (sort_of (signature_in s) (above_under rs) (cell_of rs x) ≡ Some v.sort)
unfolding is_phrase is_there IsObeyed count
own_cell s [] x v k f p = (
  record {
    phrase = refl;
    variable = ap is_some f;
    term = record {
      phrase = refl;
      there = and_from (is_function s.declarations x || has_site s.game x) _ (or_right (is_function s.declarations x) _ (ap is_some f)) refl;
      typed = (no_fault (signature_in s) nothing_above AnyTerm (Leaf x) Empty (any_right (leaf_sort (signature_in s) nothing_above x)) refl (ap (λ u. is_arity (arity_from None u (function_in s.declarations x)) 0) f ∙ ap (λ (ps : List ℕ). length ps == 0) p) (any_sent (leaf_sort (signature_in s) nothing_above x)) refl, tt, tt);
    };
  },
  ap (λ u. first_of (option_map (λ (v : Variable). v.sort) u) (first_of (option_map (λ (f : Function). OfType f.result) (function_in s.declarations x)) (option_map BelowParameter (index_in (signature_in s).arrays x)))) f,
)
own_cell s (r ∷ rs) x v k f p =
    let ss : List (ℕ × ℕ) = r ∷ rs in
    let all = terms_typed s ss ss k.bounds in
    let long : length v.parameters ≡ count (index_terms ss) = ap length p ∙ (length_map (λ (r : ℕ × ℕ). r.1) ss ∙ sym (count_terms ss)) in (
      record {
        phrase = and_from (is_phrase Terms (index_terms ss)) _ all.phrase refl;
        variable = ap is_some f;
        term = record {
          phrase = and_from (is_phrase Terms (index_terms ss)) _ all.phrase refl;
          there = and_from (has_site s.game x) _ (ap is_some f) (and_from (is_there (names_under s ss) Terms (index_terms ss)) _ all.there refl);
          typed = (
            no_fault (signature_in s) (above_under ss) AnyTerm (Read x) (index_terms ss) (any_right (option_map (λ (v : Variable). v.sort) (first_site x [] s.game))) refl
                (ap (λ u. is_arity (option_map (λ (v : Variable). length v.parameters) u) (count (index_terms ss))) f ∙ eq-eqb (length v.parameters) (count (index_terms ss)) long) (any_sent (option_map (λ (v : Variable). v.sort) (first_site x [] s.game))) refl,
            subst (λ u. IsTyped (signature_in s) (above_under ss) (asks_indices u) (index_terms ss)) (sym f) (subst (λ ps. IsTyped (signature_in s) (above_under ss) (Indices ps) (index_terms ss)) (sym p) all.typed),
            tt,
          );
        };
      },
      ap (option_map (λ (v : Variable). v.sort)) f,
    )
