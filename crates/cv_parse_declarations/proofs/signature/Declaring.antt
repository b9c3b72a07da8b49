-- What is read and heard of each kind of declaration.
use mathlib.Core.List.{reverse_aux}
use Rattle.std.proofs.Common.{◌≡◌, ℕ, ◌<◌, ◌==◌, Bool, true, false, List, [], ◌∷◌, ◌++◌, drop, map, reverse, refl, ap, ap₂, sym, ◌∙◌, subst, lit<, append_assoc, append-nil, Option, Some, None, Ok}
use Rattle.std.proofs.lemmas.Grind.{reverse_onto}
use Rattle.std.proofs.lemmas.List.{reverse-append, reverse-reverse}
use Rattle.std.specs.List.{AllByRecursion, list_any}
use Rattle.std.specs.Prelude.{flat_map}
use Rattle.cv_syntax_trees.specs.Tree.{Tree, Node}
use Rattle.cv_syntax_trees.specs.Declarations.{Declaration, Named, Equation, Query}
use Rattle.cv_syntax_trees.specs.declared.class.Class.{Class}
use Rattle.cv_syntax_trees.specs.declared.class.Class.TheVariants as class
use Rattle.cv_syntax_trees.specs.declared.head.Head.TheVariants.{Forall}
use Rattle.cv_syntax.specs.Postorder.{postorder}
use Rattle.cv_syntax.specs.declared.make.Make.TheVariants.{Nothing}
use Rattle.cv_parse_notation.specs.declared.sign.Sign.{Sign}
use Rattle.cv_parse_notation.specs.declared.sign.Mark.TheVariants as mark
use Rattle.cv_parse_notation.specs.Form.{either, made, word, ◌&◌, ◌▸◌, ◌◂◌}
use Rattle.cv_parse_notation.specs.Reads.{Found}
use Rattle.cv_parse_grammar.specs.declared.role.TypeOption.{TypeOption}
use Rattle.cv_parse_grammar.specs.declared.role.TypeOption.TheVariants.{Fixed, Large, Bounded}
use Rattle.cv_parse_grammar.specs.declared.role.Asked.TheVariants.{AParam, AChannel, AFunction, AnEvent, AProbability, AType}
use Rattle.cv_parse_grammar.specs.declared.role.Region.TheVariants.{InEquation, InQuery}
use Rattle.cv_parse_grammar.specs.declared.role.Role.{Role}
use Rattle.cv_parse_grammar.specs.declared.role.Role.TheVariants.{Declares}
use Rattle.cv_parse_grammar.specs.Phrases.{Phrase, inside, listed, type_name}
use Rattle.cv_parse_grammar.specs.Terms.{term}
use Rattle.cv_parse_grammar.specs.Declarations.{class_of, constant, correspondence, data_option, forall_vars, ids, is_fixed, is_large, named, secrecy, type_list, type_options}
use Rattle.cv_parse_terms.specs.declared.lookahead.ReadError.{ReadError}
use Rattle.cv_parse_terms.specs.declared.trail.Trail.{Trail}
use Rattle.cv_parse_terms.specs.Gives.{Fails, read_in}
use Rattle.cv_parse_terms.specs.Tables.{Parts, Stops, part, parts_of, row_in, waits, work_of}
use Rattle.cv_parse_terms.specs.TermRows.{EntersWith, row_count, row_of, term_rows}
use Rattle.cv_parse_terms.proofs.Chains.{made_read}
use Rattle.cv_parse_terms.proofs.Entries.{enters_fails, enters_put}
use Rattle.cv_parse_terms.proofs.Places.{fails_bind}
use Rattle.cv_parse_terms.proofs.Saying.{Says, each, grows, name_waits}
use Rattle.cv_parse_declarations.specs.declared.signature.declarations.DeclarationKind.{DeclarationKind}
use Rattle.cv_parse_declarations.specs.declared.signature.declarations.DeclarationKind.TheVariants as kind
use Rattle.cv_parse_declarations.specs.declared.signature.heard.Heard.{Heard}
use Rattle.cv_parse_declarations.specs.declared.signature.heard.Heard.TheVariants as heard
use Rattle.cv_parse_declarations.specs.signature.Declares.{IsDeclared, IsWhole, heard_of, parts_of as tree_parts}
use Rattle.cv_parse_declarations.specs.signature.Kinds.{form_of, heard_in, names_in, row_number, type_in}
use Rattle.cv_parse_declarations.proofs.signature.Correspondences.{query_there}
use Rattle.cv_parse_declarations.proofs.signature.Listed.{is_there, names_whole, one_made, plain, plain_heard}
use Rattle.cv_parse_declarations.proofs.signature.Says.{data_number, data_waits, number_of, option_waits, says_channels, says_constants, says_equation, says_event_decl, says_function, says_parameters, says_probability, says_query, says_type_decl}

-- a row that reads declarations: what is heard by the names that wait behind it, and the parts that it makes
pub record Told {A : Type 0} (n r : ℕ) (hear : List ℕ → List Heard) (f : Phrase A) (v : A → List Declaration) (e : A → Parts → Parts) : Type 0 where
  pub within : r < row_count
  pub says : Says n r (row_of r) f e
  pub hears : (a : A) (q : Parts) → q.names ≡ [] → hear (e a q).names ≡ map heard_of (v a)
  pub makes : (a : A) (q : Parts) → (e a q).makes ≡ q.makes ++ flat_map tree_parts (v a)
  pub whole : (ts : List Sign) (x : Found Role A) → read_in n f ts ≡ Ok x → AllByRecursion IsWhole (v x.value)

pub told : {A : Type 0} {n r : ℕ} {hear : List ℕ → List Heard} {f : Phrase A} {v : A → List Declaration} {e : A → Parts → Parts} → Told n r hear f v e → (all : List Sign) (at end : ℕ) (old new : Trail) (ns : List ℕ) (before after : List Heard) → EntersWith r n all at old [] (Ok end) new ns → after ≡ before ++ hear (reverse ns) → IsDeclared all old new before after (read_in n (made v f) (drop at all)) end
told {n = n} {r = r} {hear = hear} {v = v} t all at end old new ns before after k h =
    let d = enters_put n r all at end old new ns t.within t.says k in
    record {
      value = v d.value;
      read = made_read v d.read;
      heard = h ∙ ap (λ l. before ++ l) (ap (λ (q : Parts). hear q.names) d.parts ∙ t.hears d.value (parts_of old []) refl);
      makes = ap (λ (q : Parts). q.makes) d.parts ∙ t.makes d.value (parts_of old []);
      whole = t.whole (drop at all) (record { value = d.value; uses = d.read.uses; rest = drop end all }) d.read.is;
    }

pub not_told : {A : Type 0} {n r : ℕ} {hear : List ℕ → List Heard} {f : Phrase A} {v : A → List Declaration} {e : A → Parts → Parts} → Told n r hear f v e → (all : List Sign) (at : ℕ) (old : Trail) (x : ReadError) → Stops all x (row_in term_rows n row_count r (work_of old [] (drop at all))) → Fails all x (read_in n (made v f) (drop at all))
not_told {n = n} {r = r} t all at old x h = fails_bind all x _ _ (enters_fails n r all at old x t.within t.says h)

-- names that wait, and their parts

names_wait : (l : List ℕ) (q : Parts) → (each name_waits l q).names ≡ reverse_aux l q.names
names_wait [] q = refl
names_wait (x ∷ l) q = names_wait l (name_waits x q)

waiting : (l : List ℕ) (q : Parts) → q.names ≡ [] → reverse (each name_waits l q).names ≡ l
waiting l q h = ap reverse (names_wait l q ∙ ap (reverse_aux l) h) ∙ reverse-reverse l

names_heard : (c : Class) (r : Option ℕ) (l : List ℕ) (q : Parts) → q.names ≡ [] → names_in c r (reverse (each name_waits l q).names) ≡ map heard_of (map (plain c r) l)
names_heard c r l q h = ap (names_in c r) (waiting l q h) ∙ plain_heard c r l

names_made : (c : Class) (r : Option ℕ) (l : List ℕ) (q : Parts) → (each name_waits l q).makes ≡ q.makes ++ flat_map tree_parts (map (plain c r) l)
unfolding postorder
names_made c r [] q = sym (append-nil q.makes)
names_made c r (x ∷ l) q = names_made c r l (name_waits x q) ∙ append_assoc q.makes (Nothing ∷ []) (flat_map tree_parts (map (plain c r) l))

of_parameters : (n : ℕ) → Told n 157 (heard_in kind.Parameters) (mark.Param ▸ ids (Declares AParam) ◂ mark.Dot) (map (named class.Param)) (each name_waits)
of_parameters n = record { within = lit< tt; says = says_parameters n; hears = names_heard class.Param None; makes = names_made class.Param None; whole = λ ts x i. names_whole class.Param None x.value refl }

of_channels : (n : ℕ) → Told n 159 (heard_in kind.Channels) (mark.Channel ▸ ids (Declares AChannel) ◂ mark.Dot) (map (named class.Channel)) (each name_waits)
of_channels n = record { within = lit< tt; says = says_channels n; hears = names_heard class.Channel None; makes = names_made class.Channel None; whole = λ ts x i. names_whole class.Channel None x.value refl }

of_probability : (n : ℕ) → Told n 160 (heard_in kind.Probability) (mark.Proba ▸ word (Declares AProbability) ◂ mark.Dot) (λ x. named class.Proba x ∷ []) name_waits
of_probability n = record { within = lit< tt; says = says_probability n; hears = λ x. names_heard class.Proba None (x ∷ []); makes = λ x. names_made class.Proba None (x ∷ []); whole = λ ts x i. (refl, tt) }

of_constants : (n : ℕ) → Told n 170 (heard_in kind.Constants) (mark.ConstWord ▸ (ids (Declares AFunction) & (mark.Colon ▸ type_name)) ◂ mark.Dot) (λ (l, T). map (constant T) l) (λ c q. waits c.1 (each name_waits c.0 q))
of_constants n = record {
  within = lit< tt;
  says = says_constants n;
  hears = λ c q h. names_heard (class.Fun false) (Some c.1) c.0 q h;
  makes = λ c q. names_made (class.Fun false) (Some c.1) c.0 q;
  whole = λ ts x i. names_whole (class.Fun false) (Some x.value.1) x.value.0 refl;
}

-- types

options_wait : (l : List TypeOption) (q : Parts) → (each option_waits l q).names ≡ reverse_aux (map number_of l) q.names
options_wait [] q = refl
options_wait (o ∷ l) q = options_wait l (option_waits o q)

options_make : (l : List TypeOption) (q : Parts) → (each option_waits l q).makes ≡ q.makes
options_make [] q = refl
options_make (o ∷ l) q = options_make l (option_waits o q)

behind_name : (l : List ℕ) (x : ℕ) → reverse (reverse_aux l (x ∷ [])) ≡ x ∷ l
behind_name l x = ap reverse (reverse_onto l x []) ∙ (reverse-append (reverse l) (x ∷ []) ∙ ap (λ m. x ∷ m) (reverse-reverse l))

any_fixed : (l : List TypeOption) → list_any (λ x. x == 0) (map number_of l) ≡ list_any is_fixed l
any_fixed [] = refl
any_fixed (Fixed ∷ l) = refl
any_fixed (Large ∷ l) = any_fixed l
any_fixed (Bounded ∷ l) = any_fixed l

any_large : (l : List TypeOption) → list_any (λ x. x == 1) (map number_of l) ≡ list_any is_large l
any_large [] = refl
any_large (Fixed ∷ l) = any_large l
any_large (Large ∷ l) = refl
any_large (Bounded ∷ l) = any_large l

type_heard : (x : ℕ) (l : List TypeOption) (q : Parts) → q.names ≡ [] → type_in (reverse (each option_waits l (waits x q)).names) ≡ map heard_of (named (class_of l) x ∷ [])
type_heard x l q h =
    ap type_in (ap reverse (options_wait l (waits x q) ∙ ap (λ m. reverse_aux (map number_of l) (x ∷ m)) h) ∙ behind_name (map number_of l) x)
    ∙ ap₂ (λ a b. heard.Named x (class.TypeName a b) None ∷ []) (any_fixed l) (any_large l)

type_made : (x : ℕ) (l : List TypeOption) (q : Parts) → (each option_waits l (waits x q)).makes ++ Nothing ∷ [] ≡ q.makes ++ flat_map tree_parts (named (class_of l) x ∷ [])
unfolding postorder
type_made x l q = ap (λ m. m ++ Nothing ∷ []) (options_make l (waits x q))

of_type : (n : ℕ) → Told n 168 (heard_in kind.TypeName) (mark.TypeWord ▸ (word (Declares AType) & type_options) ◂ mark.Dot) (λ (x, l). named (class_of l) x ∷ []) (λ c q. part Nothing (each option_waits c.1 (waits c.0 q)))
of_type n = record {
  within = lit< tt;
  says = says_type_decl n;
  hears = λ c q h. type_heard c.0 c.1 q h;
  makes = λ c q. type_made c.0 c.1 q;
  whole = λ ts x i. (refl, tt);
}

-- functions and events

one_heard : (c : Class) (r : Option ℕ) (l : Tree) (x : ℕ) (q : Parts) → q.names ≡ [] → names_in c r (reverse (x ∷ q.names)) ≡ map heard_of (Named x c l r ∷ [])
one_heard c r l x q h = ap (λ m. names_in c r (reverse (x ∷ m))) h

data_is : (d : Bool) → (data_number d == 1) ≡ d
data_is true = refl
data_is false = refl

of_function : (n : ℕ) → Told n 176 (heard_in kind.Function) (mark.Fun ▸ (word (Declares AFunction) & (type_list & (mark.Colon ▸ (type_name & data_option)))) ◂ mark.Dot) (λ (f, (l, (T, d))). Named f (class.Fun d) l (Some T) ∷ []) (λ c q. data_waits c.1.1.1 (waits c.1.1.0 (grows c.1.0 (waits c.0 q))))
of_function n = record {
  within = lit< tt;
  says = says_function n;
  hears = λ c q h. ap (λ d. names_in (class.Fun d) (Some c.1.1.0) (reverse (c.0 ∷ q.names))) (data_is c.1.1.1) ∙ one_heard (class.Fun c.1.1.1) (Some c.1.1.0) c.1.0 c.0 q h;
  makes = λ c q. one_made (Named c.0 (class.Fun c.1.1.1) c.1.0 (Some c.1.1.0)) q.makes _ refl;
  whole = λ ts x i. (refl, tt);
}

of_event : (n : ℕ) → Told n 177 (heard_in kind.Event) (mark.EventWord ▸ (word (Declares AnEvent) & listed type_list) ◂ mark.Dot) (λ (e, l). Named e class.Event l None ∷ []) (λ c q. grows c.1 (waits c.0 q))
of_event n = record {
  within = lit< tt;
  says = says_event_decl n;
  hears = λ c q h. one_heard class.Event None c.1 c.0 q h;
  makes = λ c q. one_made (Named c.0 class.Event c.1 None) q.makes _ refl;
  whole = λ ts x i. (refl, tt);
}

-- equations and queries

of_equation : (n : ℕ) → Told n 152 (heard_in kind.Equation) (mark.EquationWord ▸ inside InEquation (forall_vars & term) ◂ mark.Dot) (λ (l, t). Equation (Node Forall l t) ∷ []) (λ c. grows (Node Forall c.0 c.1))
of_equation n = record {
  within = lit< tt;
  says = says_equation n;
  hears = λ c q h. refl;
  makes = λ c q. one_made (Equation (Node Forall c.0 c.1)) q.makes _ refl;
  whole = λ ts x i. (is_there Forall x.value.0 x.value.1, tt);
}

of_query : (n : ℕ) → Told n 214 (heard_in kind.Query) (mark.QueryWord ▸ inside InQuery (either secrecy correspondence) ◂ mark.Dot) (λ t. Query t ∷ []) grows
of_query n = record {
  within = lit< tt;
  says = says_query n;
  hears = λ t q h. refl;
  makes = λ t q. one_made (Query t) q.makes _ refl;
  whole = λ ts x i. (query_there n ts x i, tt);
}

-- each kind

declared_kind : (k : DeclarationKind) (n : ℕ) (all : List Sign) (at end : ℕ) (old new : Trail) (ns : List ℕ) (before after : List Heard) → EntersWith (row_number k) n all at old [] (Ok end) new ns → after ≡ before ++ heard_in k (reverse ns) → IsDeclared all old new before after (read_in n (form_of k) (drop at all)) end
declared_kind kind.Parameters n all at end old new ns before after r h = told (of_parameters n) all at end old new ns before after r h
declared_kind kind.Channels n all at end old new ns before after r h = told (of_channels n) all at end old new ns before after r h
declared_kind kind.Probability n all at end old new ns before after r h = told (of_probability n) all at end old new ns before after r h
declared_kind kind.TypeName n all at end old new ns before after r h = told (of_type n) all at end old new ns before after r h
declared_kind kind.Constants n all at end old new ns before after r h = told (of_constants n) all at end old new ns before after r h
declared_kind kind.Function n all at end old new ns before after r h = told (of_function n) all at end old new ns before after r h
declared_kind kind.Event n all at end old new ns before after r h = told (of_event n) all at end old new ns before after r h
declared_kind kind.Equation n all at end old new ns before after r h = told (of_equation n) all at end old new ns before after r h
declared_kind kind.Query n all at end old new ns before after r h = told (of_query n) all at end old new ns before after r h

undeclared_kind : (k : DeclarationKind) (n : ℕ) (all : List Sign) (at : ℕ) (old : Trail) (x : ReadError) → Stops all x (row_in term_rows n row_count (row_number k) (work_of old [] (drop at all))) → Fails all x (read_in n (form_of k) (drop at all))
undeclared_kind kind.Parameters n all at old x h = not_told (of_parameters n) all at old x h
undeclared_kind kind.Channels n all at old x h = not_told (of_channels n) all at old x h
undeclared_kind kind.Probability n all at old x h = not_told (of_probability n) all at old x h
undeclared_kind kind.TypeName n all at old x h = not_told (of_type n) all at old x h
undeclared_kind kind.Constants n all at old x h = not_told (of_constants n) all at old x h
undeclared_kind kind.Function n all at old x h = not_told (of_function n) all at old x h
undeclared_kind kind.Event n all at old x h = not_told (of_event n) all at old x h
undeclared_kind kind.Equation n all at old x h = not_told (of_equation n) all at old x h
undeclared_kind kind.Query n all at old x h = not_told (of_query n) all at old x h

-- by the row's number, where no name waits before it

pub declares_kind : (k : DeclarationKind) (n r : ℕ) (all : List Sign) (at end : ℕ) (old new : Trail) (ms ns : List ℕ) (before after : List Heard) → r ≡ row_number k → ms ≡ [] → EntersWith r n all at old ms (Ok end) new ns → after ≡ before ++ heard_in k (reverse ns) → IsDeclared all old new before after (read_in n (form_of k) (drop at all)) end
declares_kind k n r all at end old new ms ns before after i e d h =
    declared_kind k n all at end old new ns before after (subst (λ l. EntersWith (row_number k) n all at old l (Ok end) new ns) e (subst (λ j. EntersWith j n all at old ms (Ok end) new ns) i d)) h

pub kind_fails : (k : DeclarationKind) (n r : ℕ) (all : List Sign) (at : ℕ) (old : Trail) (ms : List ℕ) (x : ReadError) → r ≡ row_number k → ms ≡ [] → Stops all x (row_in term_rows n row_count r (work_of old ms (drop at all))) → Fails all x (read_in n (form_of k) (drop at all))
kind_fails k n r all at old ms x i e h =
    undeclared_kind k n all at old x (subst (λ l. Stops all x (row_in term_rows n row_count (row_number k) (work_of old l (drop at all)))) e (subst (λ j. Stops all x (row_in term_rows n row_count j (work_of old ms (drop at all)))) i h))
