-- The uses of names of terms, in which plain reads get their indices.
use Rattle.std.proofs.Common.{◌≡◌, ℕ, zero, suc, Bool, true, false, ◌||◌, ◌==◌, if◌then◌else◌, List, [], ◌∷◌, map, take, Option, Some, None, refl, ap, sym, ◌∙◌, subst}
use Rattle.std.proofs.lemmas.Bool.{or_left, or_right}
use Rattle.std.specs.List.{list_any}
use Rattle.cv_syntax_trees.specs.Tree.{Tree, Empty, Node, chain, lone}
use Rattle.cv_syntax_trees.specs.declared.head.Head.TheVariants.{Leaf, Read, Apply, Eq, And, Or, Not, Yes, No, Cons}
use Rattle.cv_parse_notation.specs.declared.sign.Mark.TheVariants as mark
use Rattle.cv_parse_grammar.specs.declared.role.Asked.TheVariants.{AFunction}
use Rattle.cv_parse_grammar.specs.declared.role.Role.TheVariants.{Mentions, AsCall, AsArray, AsBare, MentionsCell}
use Rattle.cv_parse_grammar.specs.Filled.{bare, filled_at, read_at, read_plainly}
use Rattle.cv_parse_grammar.specs.Identities.{is_among}
use Rattle.cv_parse_grammar.specs.Names.{Uses, binds_variable, declares_as, is_used}
use Rattle.cv_print_bytes.specs.terminals.Told.{Piece, cell_told, cells_told, shown, term_told, terms_told}
use Rattle.cv_print_back.proofs.files.Passing.{AreSeen, Obey, Passes, use_of, variables_in}
use Rattle.cv_print_back.proofs.files.Saying.{InTurn, Run, Word}
use Rattle.cv_print_back.proofs.files.Tales.{definitions, told_append, told_by}

-- what is told of equations and the like
eq_told : (a b : Tree) (ws : Uses) → told_by (term_told (Node Eq a b)) ws ≡ told_by (term_told a) (told_by (term_told b) ws)
unfolding term_told told_by
eq_told a b ws = told_append (term_told a) _ ws ∙ ap (told_by (term_told a)) (told_append (term_told b) _ ws)

and_told : (a b : Tree) (ws : Uses) → told_by (term_told (Node And a b)) ws ≡ told_by (term_told a) (told_by (term_told b) ws)
unfolding term_told told_by
and_told a b ws = told_append (term_told a) _ ws ∙ ap (told_by (term_told a)) (told_append (term_told b) _ ws)

or_told : (a b : Tree) (ws : Uses) → told_by (term_told (Node Or a b)) ws ≡ told_by (term_told a) (told_by (term_told b) ws)
unfolding term_told told_by
or_told a b ws = told_append (term_told a) _ ws ∙ ap (told_by (term_told a)) (told_append (term_told b) _ ws)

not_told : (a b : Tree) (ws : Uses) → told_by (term_told (Node Not a b)) ws ≡ told_by (term_told a) ws
unfolding term_told told_by
not_told a b ws = told_append (term_told a) _ ws

apply_told : (f : ℕ) (a b : Tree) (ws : Uses) → told_by (term_told (Node (Apply f) a b)) ws ≡ use_of Mentions f ∷ use_of AsCall 0 ∷ told_by (terms_told [] a) ws
unfolding term_told told_by
apply_told f a b ws = ap (λ l. use_of Mentions f ∷ use_of AsCall 0 ∷ l) (told_append (terms_told [] a) _ ws)

read_told : (x : ℕ) (a b : Tree) (ws : Uses) → told_by (term_told (Node (Read x) a b)) ws ≡ use_of Mentions x ∷ use_of AsArray 0 ∷ told_by (terms_told [] a) ws
unfolding term_told told_by
read_told x a b ws = ap (λ l. use_of Mentions x ∷ use_of AsArray 0 ∷ l) (told_append (terms_told [] a) _ ws)

cell_read_told : (x : ℕ) (a b : Tree) (ws : Uses) → told_by (cell_told (Node (Read x) a b)) ws ≡ use_of MentionsCell x ∷ told_by (terms_told [] a) ws
unfolding told_by
cell_read_told x a b ws = ap (λ l. use_of MentionsCell x ∷ l) (told_append (terms_told [] a) _ ws)

first_told : (a b : Tree) (ws : Uses) → told_by (terms_told [] (Node Cons a b)) ws ≡ told_by (term_told a) (told_by (terms_told (shown mark.Comma) b) ws)
unfolding terms_told told_by
first_told a b ws = told_append (term_told a) _ ws

further_told : (a b : Tree) (ws : Uses) → told_by (terms_told (shown mark.Comma) (Node Cons a b)) ws ≡ told_by (term_told a) (told_by (terms_told (shown mark.Comma) b) ws)
unfolding terms_told told_by
further_told a b ws = told_append (term_told a) _ ws

first_cell_told : (a b : Tree) (ws : Uses) → told_by (cells_told [] (Node Cons a b)) ws ≡ told_by (cell_told a) (told_by (cells_told (shown mark.Comma) b) ws)
unfolding cells_told told_by
first_cell_told a b ws = told_append (cell_told a) _ ws

further_cell_told : (a b : Tree) (ws : Uses) → told_by (cells_told (shown mark.Comma) (Node Cons a b)) ws ≡ told_by (cell_told a) (told_by (cells_told (shown mark.Comma) b) ws)
unfolding cells_told told_by
further_cell_told a b ws = told_append (cell_told a) _ ws

-- indices that are read

abbrev leaves : List ℕ → Tree
leaves l = chain (map (λ i. lone (Leaf i)) l)

abbrev index_uses : List ℕ → Uses → Uses
index_uses [] ws = ws
index_uses (i ∷ l) ws = use_of Mentions i ∷ use_of AsBare 0 ∷ index_uses l ws

leaves_told : (l : List ℕ) (ws : Uses) → told_by (terms_told (shown mark.Comma) (leaves l)) ws ≡ index_uses l ws
unfolding term_told terms_told told_by
leaves_told [] ws = refl
leaves_told (i ∷ l) ws = ap (λ k. use_of Mentions i ∷ use_of AsBare 0 ∷ k) (leaves_told l ws)

first_leaves_told : (l : List ℕ) (ws : Uses) → told_by (terms_told [] (leaves l)) ws ≡ index_uses l ws
unfolding term_told terms_told told_by
first_leaves_told [] ws = refl
first_leaves_told (i ∷ l) ws = ap (λ k. use_of Mentions i ∷ use_of AsBare 0 ∷ k) (leaves_told l ws)

index_variables : (l : List ℕ) (ws : Uses) → variables_in (index_uses l ws) ≡ variables_in ws
index_variables [] ws = refl
index_variables (i ∷ l) ws = index_variables l ws

taken : (k : ℕ) (seen now : List ℕ) → AreSeen seen now → AreSeen seen (take k now)
taken zero seen now n = tt
taken (suc k) seen [] n = tt
taken (suc k) seen (i ∷ now) n = (n.0, taken k seen now n.1)

module _ (all : Uses) (sites : ℕ → Option ℕ) where
  -- What is told of the tree with its indices stands for what was told of its text, and the tree defines the variables that
  -- are bound there.
  pub record Stands (T : Tree → List Piece) (t : Tree) (us vs : Uses) : Type 0 where
    pub defines : definitions t (variables_in vs) ≡ variables_in us
    pub passes : (now : List ℕ) (ws : Uses) → Passes all now vs ws → Passes all now us (told_by (T (filled_at sites now t)) ws)

  abbrev pub IsTerm : Run Tree
  IsTerm t us vs = Stands term_told t us vs

  abbrev pub AreTerms : Run Tree
  AreTerms t us vs = Stands (terms_told []) t us vs

  -- a tree of which nothing is told
  pub empty_is : (T : Tree → List Piece) → ((ws : Uses) → told_by (T Empty) ws ≡ ws) → (us vs : Uses) → us ≡ vs → Stands T Empty us vs
  unfolding filled_at definitions
  empty_is T e us vs s = record {
    defines = ap variables_in (sym s);
    passes = λ now ws g. subst (λ z. Passes all now us z) (sym (e ws)) (subst (λ z. Passes all now z ws) (sym s) g);
  }

  pub eq_is : (a b : Tree) (us ms vs : Uses) → IsTerm a us ms → IsTerm b ms vs → IsTerm (Node Eq a b) us vs
  unfolding filled_at definitions
  eq_is a b us ms vs p q = record {
    defines = ap (definitions a) q.defines ∙ p.defines;
    passes = λ now ws g. subst (λ z. Passes all now us z) (sym (eq_told (filled_at sites now a) (filled_at sites now b) ws)) (p.passes now _ (q.passes now ws g));
  }

  pub and_is : (a b : Tree) (us ms vs : Uses) → IsTerm a us ms → IsTerm b ms vs → IsTerm (Node And a b) us vs
  unfolding filled_at definitions
  and_is a b us ms vs p q = record {
    defines = ap (definitions a) q.defines ∙ p.defines;
    passes = λ now ws g. subst (λ z. Passes all now us z) (sym (and_told (filled_at sites now a) (filled_at sites now b) ws)) (p.passes now _ (q.passes now ws g));
  }

  pub or_is : (a b : Tree) (us ms vs : Uses) → IsTerm a us ms → IsTerm b ms vs → IsTerm (Node Or a b) us vs
  unfolding filled_at definitions
  or_is a b us ms vs p q = record {
    defines = ap (definitions a) q.defines ∙ p.defines;
    passes = λ now ws g. subst (λ z. Passes all now us z) (sym (or_told (filled_at sites now a) (filled_at sites now b) ws)) (p.passes now _ (q.passes now ws g));
  }

  pub not_is : (a : Tree) (us vs : Uses) → IsTerm a us vs → IsTerm (Node Not a Empty) us vs
  unfolding filled_at definitions
  not_is a us vs p = record {
    defines = p.defines;
    passes = λ now ws g. subst (λ z. Passes all now us z) (sym (not_told (filled_at sites now a) Empty ws)) (p.passes now ws g);
  }

  pub yes_is : (us vs : Uses) → us ≡ vs → IsTerm (lone Yes) us vs
  unfolding filled_at definitions term_told told_by
  yes_is us vs s = record { defines = ap variables_in (sym s); passes = λ now ws g. subst (λ z. Passes all now z ws) (sym s) g }

  pub no_is : (us vs : Uses) → us ≡ vs → IsTerm (lone No) us vs
  unfolding filled_at definitions term_told told_by
  no_is us vs s = record { defines = ap variables_in (sym s); passes = λ now ws g. subst (λ z. Passes all now z ws) (sym s) g }

  pub apply_is : (f : ℕ) (a : Tree) (us ms ns vs : Uses) → Word Mentions f us ms → Word AsCall 0 ms ns → AreTerms a ns vs → IsTerm (Node (Apply f) a Empty) us vs
  unfolding filled_at definitions
  apply_is f a us ms ns vs w v p = record {
    defines = p.defines ∙ sym (ap variables_in w.1 ∙ ap variables_in v.1);
    passes = λ now ws g.
        let r = p.passes now ws g in
        subst (λ z. Passes all now us z) (sym (apply_told f (filled_at sites now a) Empty ws))
        (subst (λ z. Passes all now z (use_of Mentions f ∷ use_of AsCall 0 ∷ told_by (terms_told [] (filled_at sites now a)) ws)) (sym (w.1 ∙ ap (λ l. record { role = Mentions; name = f; left = w.0 } ∷ l) v.1))
        (record { variables = r.variables; obey = λ seen n k. (k.0, (k.1.0, r.obey seen n k.1.1)) }));
  }

  pub read_is : (x : ℕ) (a : Tree) (us ms ns vs : Uses) → Word Mentions x us ms → Word AsArray 0 ms ns → AreTerms a ns vs → IsTerm (Node (Read x) a Empty) us vs
  unfolding filled_at definitions
  read_is x a us ms ns vs w v p = record {
    defines = p.defines ∙ sym (ap variables_in w.1 ∙ ap variables_in v.1);
    passes = λ now ws g.
        let r = p.passes now ws g in
        subst (λ z. Passes all now us z) (sym (read_told x (filled_at sites now a) Empty ws))
        (subst (λ z. Passes all now z (use_of Mentions x ∷ use_of AsArray 0 ∷ told_by (terms_told [] (filled_at sites now a)) ws)) (sym (w.1 ∙ ap (λ l. record { role = Mentions; name = x; left = w.0 } ∷ l) v.1))
        (record { variables = r.variables; obey = λ seen n k. (k.0, (k.1.0, r.obey seen n k.1.1)) }));
  }

  pub cell_read_is : (x : ℕ) (a : Tree) (us ms vs : Uses) → Word MentionsCell x us ms → AreTerms a ms vs → Stands cell_told (Node (Read x) a Empty) us vs
  unfolding filled_at definitions
  cell_read_is x a us ms vs w p = record {
    defines = p.defines ∙ sym (ap variables_in w.1);
    passes = λ now ws g.
        let r = p.passes now ws g in
        subst (λ z. Passes all now us z) (sym (cell_read_told x (filled_at sites now a) Empty ws))
        (subst (λ z. Passes all now z (use_of MentionsCell x ∷ told_by (terms_told [] (filled_at sites now a)) ws)) (sym w.1)
        (record { variables = r.variables; obey = λ seen n k. (k.0, r.obey seen n k.1) }));
  }

  -- lists

  further_are : (l : List Tree) (us vs : Uses) → InTurn IsTerm l us vs → Stands (terms_told (shown mark.Comma)) (chain l) us vs
  unfolding filled_at definitions terms_told told_by
  further_are [] us vs e = empty_is (terms_told (shown mark.Comma)) (λ ws. refl) us vs e
  further_are (t ∷ l) us vs w =
      let q = further_are l w.0 vs w.2 in
      record {
        defines = ap (definitions t) q.defines ∙ w.1.defines;
        passes = λ now ws g. subst (λ z. Passes all now us z) (sym (further_told (filled_at sites now t) (filled_at sites now (chain l)) ws)) (w.1.passes now _ (q.passes now ws g));
      }

  pub terms_are : (l : List Tree) (us vs : Uses) → InTurn IsTerm l us vs → AreTerms (chain l) us vs
  unfolding filled_at definitions terms_told told_by
  terms_are [] us vs e = empty_is (terms_told []) (λ ws. refl) us vs e
  terms_are (t ∷ l) us vs w =
      let q = further_are l w.0 vs w.2 in
      record {
        defines = ap (definitions t) q.defines ∙ w.1.defines;
        passes = λ now ws g. subst (λ z. Passes all now us z) (sym (first_told (filled_at sites now t) (filled_at sites now (chain l)) ws)) (w.1.passes now _ (q.passes now ws g));
      }

  further_cells_are : (l : List Tree) (us vs : Uses) → InTurn (Stands cell_told) l us vs → Stands (cells_told (shown mark.Comma)) (chain l) us vs
  unfolding filled_at definitions cells_told told_by
  further_cells_are [] us vs e = empty_is (cells_told (shown mark.Comma)) (λ ws. refl) us vs e
  further_cells_are (t ∷ l) us vs w =
      let q = further_cells_are l w.0 vs w.2 in
      record {
        defines = ap (definitions t) q.defines ∙ w.1.defines;
        passes = λ now ws g. subst (λ z. Passes all now us z) (sym (further_cell_told (filled_at sites now t) (filled_at sites now (chain l)) ws)) (w.1.passes now _ (q.passes now ws g));
      }

  pub cells_are : (l : List Tree) (us vs : Uses) → InTurn (Stands cell_told) l us vs → Stands (cells_told []) (chain l) us vs
  unfolding filled_at definitions cells_told told_by
  cells_are [] us vs e = empty_is (cells_told []) (λ ws. refl) us vs e
  cells_are (t ∷ l) us vs w =
      let q = further_cells_are l w.0 vs w.2 in
      record {
        defines = ap (definitions t) q.defines ∙ w.1.defines;
        passes = λ now ws g. subst (λ z. Passes all now us z) (sym (first_cell_told (filled_at sites now t) (filled_at sites now (chain l)) ws)) (w.1.passes now _ (q.passes now ws g));
      }

  -- a bare name; a variable with a first definition is bound somewhere

  indices_obey : (l seen : List ℕ) (ws : Uses) → AreSeen seen l → Obey all false seen ws → Obey all false seen (index_uses l ws)
  indices_obey [] seen ws n k = k
  indices_obey (i ∷ l) seen ws n k = (or_right (is_used binds_variable i all) (is_used (declares_as AFunction) i all || is_among seen i) (or_right (is_used (declares_as AFunction) i all) (is_among seen i) n.0), (refl, indices_obey l seen ws n.1 k))

  module _ (sited : (x k : ℕ) → sites x ≡ Some k → is_used binds_variable x all ≡ true) where
    stays : (x : ℕ) (now : List ℕ) (vs ws : Uses) (l m : ℕ) → Passes all now vs ws → Passes all now (record { role = Mentions; name = x; left = l } ∷ record { role = AsBare; name = 0; left = m } ∷ vs) (told_by (term_told (lone (Leaf x))) ws)
    unfolding term_told told_by
    stays x now vs ws l m g = record { variables = g.variables; obey = λ seen n k. (k.0, (k.1.0, g.obey seen n k.1.1)) }

    gets : (x : ℕ) (now is : List ℕ) (vs ws : Uses) (l m : ℕ) → is_used binds_variable x all ≡ true → ((seen : List ℕ) → AreSeen seen now → AreSeen seen is) → Passes all now vs ws → Passes all now (record { role = Mentions; name = x; left = l } ∷ record { role = AsBare; name = 0; left = m } ∷ vs) (told_by (term_told (read_at x is)) ws)
    gets x now [] vs ws l m e s g = stays x now vs ws l m g
    gets x now (i ∷ is) vs ws l m e s g =
        let at : told_by (term_told (read_at x (i ∷ is))) ws ≡ use_of Mentions x ∷ use_of AsArray 0 ∷ index_uses (i ∷ is) ws = read_told x (leaves (i ∷ is)) Empty ws ∙ ap (λ k. use_of Mentions x ∷ use_of AsArray 0 ∷ k) (first_leaves_told (i ∷ is) ws) in
        subst (λ z. Passes all now (record { role = Mentions; name = x; left = l } ∷ record { role = AsBare; name = 0; left = m } ∷ vs) z) (sym at) (record {
          variables = g.variables ∙ sym (index_variables (i ∷ is) ws);
          obey = λ seen n k. (or_left (is_used binds_variable x all) false e, (refl, indices_obey (i ∷ is) seen ws (s seen n) (g.obey seen n k.1.1)));
        })

    plainly : (x : ℕ) (o : Option ℕ) → sites x ≡ o → (now : List ℕ) (vs ws : Uses) (l m : ℕ) → Passes all now vs ws → Passes all now (record { role = Mentions; name = x; left = l } ∷ record { role = AsBare; name = 0; left = m } ∷ vs) (told_by (term_told (read_plainly o now x)) ws)
    plainly x None e now vs ws l m g = stays x now vs ws l m g
    plainly x (Some k) e now vs ws l m g = gets x now (take k now) vs ws l m (sited x k e) (λ seen n. taken k seen now n) g

    barely : (x : ℕ) (b : Bool) (now : List ℕ) (vs ws : Uses) (l m : ℕ) → Passes all now vs ws → Passes all now (record { role = Mentions; name = x; left = l } ∷ record { role = AsBare; name = 0; left = m } ∷ vs) (told_by (term_told (if b then lone (Leaf x) else read_plainly (sites x) now x)) ws)
    barely x true now vs ws l m g = stays x now vs ws l m g
    barely x false now vs ws l m g = plainly x (sites x) refl now vs ws l m g

    pub leaf_is : (x : ℕ) (us ms vs : Uses) → Word Mentions x us ms → Word AsBare 0 ms vs → IsTerm (lone (Leaf x)) us vs
    unfolding filled_at definitions
    leaf_is x us ms vs w v = record {
      defines = sym (ap variables_in w.1 ∙ ap variables_in v.1);
      passes = λ now ws g. subst (λ z. Passes all now z (told_by (term_told (bare sites now x)) ws)) (sym (w.1 ∙ ap (λ l. record { role = Mentions; name = x; left = w.0 } ∷ l) v.1)) (barely x (list_any (λ i. i == x) now) now vs ws w.0 v.0 g);
    }

    -- the same in a list of cells

    cell_stays : (x : ℕ) (now : List ℕ) (vs ws : Uses) (l : ℕ) → Passes all now vs ws → Passes all now (record { role = MentionsCell; name = x; left = l } ∷ vs) (told_by (cell_told (lone (Leaf x))) ws)
    unfolding told_by
    cell_stays x now vs ws l g = record { variables = g.variables; obey = λ seen n k. (k.0, g.obey seen n k.1) }

    cell_gets : (x : ℕ) (now is : List ℕ) (vs ws : Uses) (l : ℕ) → ((seen : List ℕ) → AreSeen seen now → AreSeen seen is) → Passes all now vs ws → Passes all now (record { role = MentionsCell; name = x; left = l } ∷ vs) (told_by (cell_told (read_at x is)) ws)
    cell_gets x now [] vs ws l s g = cell_stays x now vs ws l g
    cell_gets x now (i ∷ is) vs ws l s g =
        let at : told_by (cell_told (read_at x (i ∷ is))) ws ≡ use_of MentionsCell x ∷ index_uses (i ∷ is) ws = cell_read_told x (leaves (i ∷ is)) Empty ws ∙ ap (λ k. use_of MentionsCell x ∷ k) (first_leaves_told (i ∷ is) ws) in
        subst (λ z. Passes all now (record { role = MentionsCell; name = x; left = l } ∷ vs) z) (sym at) (record {
          variables = g.variables ∙ sym (index_variables (i ∷ is) ws);
          obey = λ seen n k. (k.0, indices_obey (i ∷ is) seen ws (s seen n) (g.obey seen n k.1));
        })

    cell_plainly : (x : ℕ) (o : Option ℕ) (now : List ℕ) (vs ws : Uses) (l : ℕ) → Passes all now vs ws → Passes all now (record { role = MentionsCell; name = x; left = l } ∷ vs) (told_by (cell_told (read_plainly o now x)) ws)
    cell_plainly x None now vs ws l g = cell_stays x now vs ws l g
    cell_plainly x (Some k) now vs ws l g = cell_gets x now (take k now) vs ws l (λ seen n. taken k seen now n) g

    cell_barely : (x : ℕ) (b : Bool) (now : List ℕ) (vs ws : Uses) (l : ℕ) → Passes all now vs ws → Passes all now (record { role = MentionsCell; name = x; left = l } ∷ vs) (told_by (cell_told (if b then lone (Leaf x) else read_plainly (sites x) now x)) ws)
    cell_barely x true now vs ws l g = cell_stays x now vs ws l g
    cell_barely x false now vs ws l g = cell_plainly x (sites x) now vs ws l g

    pub cell_leaf_is : (x : ℕ) (us vs : Uses) → Word MentionsCell x us vs → Stands cell_told (lone (Leaf x)) us vs
    unfolding filled_at definitions
    cell_leaf_is x us vs w = record {
      defines = sym (ap variables_in w.1);
      passes = λ now ws g. subst (λ z. Passes all now z (told_by (cell_told (bare sites now x)) ws)) (sym w.1) (cell_barely x (list_any (λ i. i == x) now) now vs ws w.0 g);
    }
