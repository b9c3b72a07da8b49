-- The uses of names of lists in a process: binders, and the indices of a channel.
use Rattle.std.proofs.Common.{◌≡◌, ℕ, zero, suc, false, List, [], ◌∷◌, Option, refl, ap, sym, ◌∙◌, subst}
use Rattle.cv_syntax_trees.specs.Tree.{Tree, Empty, Node, binders, names}
use Rattle.cv_syntax_trees.specs.declared.head.Head.TheVariants.{Binder, Name}
use Rattle.cv_parse_notation.specs.declared.sign.Mark.{Mark}
use Rattle.cv_parse_notation.specs.declared.sign.Mark.TheVariants as mark
use Rattle.cv_parse_grammar.specs.declared.role.Asked.TheVariants.{AChannel, AParam, AType}
use Rattle.cv_parse_grammar.specs.declared.role.Role.TheVariants.{Asks, AsksIndex, BindsVariable}
use Rattle.cv_parse_grammar.specs.Filled.{filled_at}
use Rattle.cv_parse_grammar.specs.Names.{Uses}
use Rattle.cv_print_bytes.specs.terminals.Told.{Piece, channel_told, entries_told, names_told, shown, type_word, word}
use Rattle.cv_print_back.proofs.files.Passing.{AreSeen, Obey, Passes, asks, asks_index, binds_it, unasked, use_of, variables_in}
use Rattle.cv_print_back.proofs.files.Saying.{InTurn, Run, Word}
use Rattle.cv_print_back.proofs.files.Tales.{definitions, told_append, told_by}
use Rattle.cv_print_back.proofs.files.TermTales.{Stands, empty_is}

-- indices of a channel

abbrev pub index_asks : List ℕ → Uses → Uses
index_asks [] ws = ws
index_asks (j ∷ js) ws = use_of AsksIndex j ∷ index_asks js ws

further_names_told : (js : List ℕ) (ws : Uses) → told_by (entries_told AsksIndex [] (word AsksIndex) (shown mark.Comma) (names js)) ws ≡ index_asks js ws
unfolding entries_told told_by
further_names_told [] ws = refl
further_names_told (j ∷ js) ws = ap (λ l. use_of AsksIndex j ∷ l) (further_names_told js ws)

names_are_told : (js : List ℕ) (ws : Uses) → told_by (names_told (names js)) ws ≡ index_asks js ws
unfolding entries_told told_by
names_are_told [] ws = refl
names_are_told (j ∷ js) ws = ap (λ l. use_of AsksIndex j ∷ l) (further_names_told js ws)

pub channel_is_told : (c : ℕ) (js : List ℕ) (ws : Uses) → told_by (channel_told c (names js)) ws ≡ use_of (Asks AChannel) c ∷ index_asks js ws
unfolding told_by
channel_is_told c [] ws = refl
channel_is_told c (j ∷ js) ws = ap (λ l. use_of (Asks AChannel) c ∷ l) (told_append (names_told (names (j ∷ js))) _ ws ∙ names_are_told (j ∷ js) ws)

pub names_filled : (sites : ℕ → Option ℕ) (now js : List ℕ) → filled_at sites now (names js) ≡ names js
unfolding filled_at
names_filled sites now [] = refl
names_filled sites now (j ∷ js) = ap (λ t. Node (Name j) Empty t) (names_filled sites now js)

pub names_define : (js l : List ℕ) → definitions (names js) l ≡ l
unfolding definitions
names_define [] l = refl
names_define (j ∷ js) l = names_define js l

-- between the name of a binder and what stands behind it
further_binders_told : (m : Mark) (bound : ℕ → List Piece) (x T : ℕ) (b : Tree) (ws : Uses) → told_by (entries_told BindsVariable (shown m) bound (shown mark.Comma) (Node (Binder x T) Empty b)) ws ≡ use_of BindsVariable x ∷ told_by (bound T) (told_by (entries_told BindsVariable (shown m) bound (shown mark.Comma) b) ws)
unfolding entries_told told_by
further_binders_told m bound x T b ws = ap (λ l. use_of BindsVariable x ∷ l) (told_append (bound T) _ ws)

first_binders_told : (m : Mark) (bound : ℕ → List Piece) (x T : ℕ) (b : Tree) (ws : Uses) → told_by (entries_told BindsVariable (shown m) bound [] (Node (Binder x T) Empty b)) ws ≡ use_of BindsVariable x ∷ told_by (bound T) (told_by (entries_told BindsVariable (shown m) bound (shown mark.Comma) b) ws)
unfolding entries_told told_by
first_binders_told m bound x T b ws = ap (λ l. use_of BindsVariable x ∷ l) (told_append (bound T) _ ws)

module _ (all : Uses) (sites : ℕ → Option ℕ) where
  pub indices_stay : (js now : List ℕ) (us vs ws : Uses) → InTurn (Word AsksIndex) js us vs → Passes all now vs ws → Passes all now us (index_asks js ws)
  indices_stay [] now us vs ws e g = subst (λ z. Passes all now z ws) (sym e) g
  indices_stay (j ∷ js) now us vs ws w g = asks_index all w.1 (indices_stay js now w.0 vs ws w.2 g)

  asked_variables : (is : List ℕ) (ws : Uses) → variables_in (index_asks is ws) ≡ variables_in ws
  asked_variables [] ws = refl
  asked_variables (i ∷ is) ws = asked_variables is ws

  asked_obey : (is seen : List ℕ) (ws : Uses) → AreSeen seen is → Obey all false seen ws → Obey all false seen (index_asks is ws)
  asked_obey [] seen ws n k = k
  asked_obey (i ∷ is) seen ws n k = (n.0, asked_obey is seen ws n.1 k)

  -- the current indices may be written
  pub indices_are_written : (now : List ℕ) (us ws : Uses) → Passes all now us ws → Passes all now us (index_asks now ws)
  indices_are_written now us ws g = record { variables = g.variables ∙ sym (asked_variables now ws); obey = λ seen n k. asked_obey now seen ws n (g.obey seen n k) }

  -- a type behind a variable, or a parameter behind an index

  pub record IsBound (bound : ℕ → List Piece) (T : ℕ) (us vs : Uses) : Type 0 where
    pub same : variables_in vs ≡ variables_in us
    pub passes : (now : List ℕ) (ws : Uses) → Passes all now vs ws → Passes all now us (told_by (bound T) ws)

  pub bool_is : (us vs : Uses) → us ≡ vs → IsBound type_word 0 us vs
  unfolding told_by
  bool_is us vs e = record { same = ap variables_in (sym e); passes = λ now ws g. subst (λ z. Passes all now z ws) (sym e) g }

  pub type_is : (T : ℕ) (us vs : Uses) → Word (Asks AType) T us vs → IsBound type_word T us vs
  unfolding told_by
  type_is zero us vs w = record { same = sym (ap variables_in w.1); passes = λ now ws g. unasked all w g }
  type_is (suc T) us vs w = record { same = sym (ap variables_in w.1); passes = λ now ws g. asks all w g }

  pub param_is : (n : ℕ) (us vs : Uses) → Word (Asks AParam) n us vs → IsBound (word (Asks AParam)) n us vs
  unfolding told_by
  param_is n us vs w = record { same = sym (ap variables_in w.1); passes = λ now ws g. asks all w g }

  -- binders

  abbrev pub IsBinder : (ℕ → List Piece) → Run (ℕ × ℕ)
  IsBinder bound b us vs = (ws : Uses) × Word BindsVariable b.0 us ws × IsBound bound b.1 ws vs

  binder_variables : (bound : ℕ → List Piece) (b : ℕ × ℕ) (us vs : Uses) → IsBinder bound b us vs → b.0 ∷ variables_in vs ≡ variables_in us
  binder_variables bound b us vs w = ap (λ l. b.0 ∷ l) w.2.same ∙ sym (ap variables_in w.1.1)

  further_binders_are : (m : Mark) (bound : ℕ → List Piece) (l : List (ℕ × ℕ)) (us vs : Uses) → InTurn (IsBinder bound) l us vs → Stands all sites (entries_told BindsVariable (shown m) bound (shown mark.Comma)) (binders l) us vs
  unfolding filled_at definitions entries_told told_by
  further_binders_are m bound [] us vs e = empty_is all sites (entries_told BindsVariable (shown m) bound (shown mark.Comma)) (λ ws. refl) us vs e
  further_binders_are m bound (b ∷ l) us vs w =
      let q = further_binders_are m bound l w.0 vs w.2 in
      record {
        defines = ap (λ k. b.0 ∷ k) q.defines ∙ binder_variables bound b us w.0 w.1;
        passes = λ now ws g. subst (λ z. Passes all now us z) (sym (further_binders_told m bound b.0 b.1 (filled_at sites now (binders l)) ws)) (binds_it all w.1.1 (w.1.2.passes now _ (q.passes now ws g)));
      }

  pub binders_are : (m : Mark) (bound : ℕ → List Piece) (l : List (ℕ × ℕ)) (us vs : Uses) → InTurn (IsBinder bound) l us vs → Stands all sites (entries_told BindsVariable (shown m) bound []) (binders l) us vs
  unfolding filled_at definitions entries_told told_by
  binders_are m bound [] us vs e = empty_is all sites (entries_told BindsVariable (shown m) bound []) (λ ws. refl) us vs e
  binders_are m bound (b ∷ l) us vs w =
      let q = further_binders_are m bound l w.0 vs w.2 in
      record {
        defines = ap (λ k. b.0 ∷ k) q.defines ∙ binder_variables bound b us w.0 w.1;
        passes = λ now ws g. subst (λ z. Passes all now us z) (sym (first_binders_told m bound b.0 b.1 (filled_at sites now (binders l)) ws)) (binds_it all w.1.1 (w.1.2.passes now _ (q.passes now ws g)));
      }
