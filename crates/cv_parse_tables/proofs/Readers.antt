-- Reading of rows, piece by piece.
use Rattle.std.proofs.Common.{◌≡◌, ℕ, zero, suc, ◌+◌, ◌-◌, ◌<◌, ◌≤◌, Bool, true, false, List, [], ◌∷◌, ◌++◌, length, drop, refl, ap, ap₂, sym, ◌∙◌, arith, subst, append_assoc, append-nil, length-append, length-drop, get_or, flat_map, Ok, Err, Some, None, Result, IsErrAnd}
use Rattle.std.specs.Prelude.{replicate}
use Rattle.std.specs.Borrow.{Bor}
use Rattle.cv_syntax_trees.specs.Tree.{Tree, chain}
use Rattle.cv_syntax.specs.Postorder.{postorder}
use Rattle.cv_syntax_trees.specs.declared.head.Head.{Head}
use Rattle.cv_syntax_trees.specs.declared.head.Head.TheVariants.{Cons}
use Rattle.cv_syntax.specs.declared.make.Make.{Make}
use Rattle.cv_syntax.specs.declared.make.Make.TheVariants.{Nothing, Over}
use Rattle.cv_parse_notation.specs.declared.script.ScriptWord.{ScriptWord}
use Rattle.cv_parse_notation.specs.declared.sign.Sign.{Sign}
use Rattle.cv_parse_notation.specs.declared.sign.Mark.{Mark}
use Rattle.cv_parse_notation.specs.Spells.{Use, kind_of, next_is, starts}
use Rattle.cv_parse_notation.specs.Reads.{Syntax, Read, Reader, Found, ◌>>=◌, found, pick, nothing, joined, mapped, one_more, read_many, read_sign, read_script_word, read_sort}
use Rattle.cv_parse_grammar.specs.declared.role.Role.{Role}
use Rattle.cv_parse_terms.specs.declared.lookahead.ReadError.{ReadError}
use Rattle.cv_parse_terms.specs.declared.lookahead.ReadError.TheVariants as error
use Rattle.cv_parse_terms.specs.declared.trail.Trail.{Trail}
use Rattle.cv_parse_terms.specs.Gives.{uses_of, Fails, IsRead, IsPlain, IsRow, IsMade, IsSign, Makes, MakesRow, Shallow, read_marked}
use Rattle.cv_parse_terms.proofs.Places.{fails_bind}
use Rattle.cv_parse_terms.proofs.Passing.{passed_makes}
use Rattle.cv_parse_terms.proofs.Rows.{prefixed}
use Rattle.cv_parse_terms.proofs.Levels.{room, no_room}
use Rattle.cv_parse_terms.proofs.Made.{chain_made}
use Rattle.cv_parse_tables.specs.declared.piece.Piece.{Piece}
use Rattle.cv_parse_tables.specs.declared.piece.Piece.TheVariants as node
use Rattle.cv_parse_tables.specs.declared.piece.Piece.TheVariants.{Chain}
use Rattle.cv_parse_tables.specs.Trees.{single, over, perhaps, all_of, both_of, single_parts, over_parts}
use Rattle.cv_parse_tables.specs.Table.{Table, TreesForm, Row, Nowhere, rows_of, form, row_form, piece_form, table_heads, fronts, table_rule, row_phrase, table_below, table_reads, maybe_form, many_form, blank, carried, outer_form, never, one_of, Chooses}
use Rattle.cv_parse_tables.specs.declared.piece.Outer.{Outer}
use Rattle.cv_parse_grammar.specs.Phrases.{Sort}
use Rattle.cv_parse_notation.specs.Form.{Form, made}
use Rattle.cv_parse_tables.proofs.Carrying.{outer_reads}
use Rattle.cv_parse_tables.proofs.Parts.{single_made, over_made}
use Rattle.cv_parse_tables.proofs.Rows.{drop_at, form_at, form_none, nowhere, one_more_law}

-- the same reading
pub makes_same : (all : List Sign) (u v : Trail) (result : Result (ℕ × ℕ) ReadError) (r s : Read Role (List Tree)) → r ≡ s → MakesRow all u v result s → MakesRow all u v result r
makes_same all u v result r s e m = subst (λ x. MakesRow all u v result x) (sym e) m

pub fails_same : {A : Type 0} (all : List Sign) (e : ReadError) (r s : Read Role A) → r ≡ s → Fails all e s → Fails all e r
fails_same all e r s i h = subst (λ x. Fails all e x) (sym i) h

-- nothing
pub nothing_row : (all : List Sign) (t : Trail) (r : Read Role (List Tree)) (at : ℕ) → at ≤ length all → r ≡ found [] [] (drop at all) → IsRow all t t r 0 at
nothing_row all t r at l e = record {
  value = [];
  read = record { uses = []; is = e; noted = sym (append-nil (uses_of t.uses.items)); within = l };
  makes = sym (append-nil t.makes.items);
  many = refl;
}

-- a token with a tree of its own
pub token_row : {A : Type 0} (f : A → Tree) (all : List Sign) (u w : Trail) (r : Read Role A) (a : A) (p : ℕ) → IsRead all u.uses.items w.uses.items r a p → w.makes.items ≡ u.makes.items ++ postorder (f a) → IsRow all u w (r >>= mapped (λ x. f x ∷ [])) 1 p
token_row f all u w r a p d m = record {
  value = f a ∷ [];
  read = record { uses = d.uses; is = ap (λ x. x >>= mapped (λ y. f y ∷ [])) d.is; noted = d.noted; within = d.within };
  makes = m ∙ ap (λ l. u.makes.items ++ l) (sym (append-nil (postorder (f a))));
  many = refl;
}

-- a word or symbol, of which nothing is kept
pub sign_row : (all : List Sign) (t : Trail) (m : Mark) (at p : ℕ) → (p ≡ at + 1) × (p ≤ length all) × IsSign all m at → IsRow all t t (read_sign m (drop at all) >>= mapped (λ _. [])) 0 p
sign_row all t m at p s = nothing_row all t _ p s.1 (ap (λ r. r >>= mapped (λ _. [])) s.2 ∙ ap (λ k. found [] [] (drop k all)) (sym s.0))

-- a word of a script, of which nothing is kept
pub script_word_row : (all : List Sign) (t : Trail) (w : ScriptWord) (ts : List Sign) (p : ℕ) → IsPlain all (read_script_word w ts) tt p → IsRow all t t (read_script_word w ts >>= mapped (λ _. [])) 0 p
script_word_row all t w ts p d = nothing_row all t _ p d.within (ap (λ r. r >>= mapped (λ _. [])) d.is)

-- one tree
pub tree_row : (all : List Sign) (u v : Trail) (r : Read Role Tree) (p : ℕ) → IsMade postorder all u v r p → IsRow all u v (r >>= mapped (λ t. t ∷ [])) 1 p
tree_row all u v r p d = token_row (λ t. t) all u v r d.value p d.read d.makes

-- a phrase of files
pub outer_row : (table : Table) (n : ℕ) (f : Form Role Sort Tree) (all ts : List Sign) (u v : Trail) (p : ℕ) → IsMade postorder all u v (read_marked n f ts) p → IsRow all u v (table_reads table n (made (λ t. t ∷ []) (carried f)) ts) 1 p
outer_row table n f all ts u v p d = makes_same all u v (Ok (1, p)) _ _ (ap (λ r. r >>= mapped (λ t. t ∷ [])) (outer_reads table n f ts)) (tree_row all u v (read_marked n f ts) p d)

pub outer_fails : (table : Table) (n : ℕ) (f : Form Role Sort Tree) (all ts : List Sign) (e : ReadError) → Fails all e (read_marked n f ts) → Fails all e (table_reads table n (made (λ t. t ∷ []) (carried f)) ts)
outer_fails table n f all ts e h = fails_same all e _ _ (ap (λ r. r >>= mapped (λ t. t ∷ [])) (outer_reads table n f ts)) (fails_bind all e (read_marked n f ts) (mapped (λ t. t ∷ [])) h)

-- one tree of all that were read
pub one_row : (f : List Tree → Tree) (parts : ℕ → List Make) → ((ts : List Tree) → flat_map postorder ts ++ parts (length ts) ≡ postorder (f ts)) → (all : List Sign) (u v w : Trail) (r : Read Role (List Tree)) (n p : ℕ) → IsRow all u v r n p → w.uses.items ≡ v.uses.items → w.makes.items ≡ v.makes.items ++ parts n → IsMade postorder all u w (r >>= mapped f) p
one_row f parts h all u v w r n p d i m = record {
  value = f d.value;
  read = record { uses = d.read.uses; is = ap (λ x. x >>= mapped f) d.read.is; noted = ap uses_of i ∙ d.read.noted; within = d.read.within };
  makes =
      m ∙ (ap (λ l. l ++ parts n) d.makes
      ∙ (append_assoc u.makes.items (flat_map postorder d.value) (parts n)
      ∙ ap (λ l. u.makes.items ++ l) (ap (λ k. flat_map postorder d.value ++ parts k) d.many ∙ h d.value)));
}

mapped_twice : (f : List Tree → Tree) (r : Read Role (List Tree)) → (r >>= mapped (λ ts. f ts ∷ [])) ≡ ((r >>= mapped f) >>= mapped (λ t. t ∷ []))
mapped_twice f (Ok x) = refl
mapped_twice f (Err e) = refl

pub chain_row : (all : List Sign) (u v w : Trail) (r : Read Role (List Tree)) (n p : ℕ) → IsRow all u v r n p → w.uses.items ≡ v.uses.items → w.makes.items ≡ v.makes.items ++ (Nothing ∷ replicate n (Over Cons)) → IsRow all u w (r >>= mapped (λ ts. chain ts ∷ [])) 1 p
chain_row all u v w r n p d i m = makes_same all u w (Ok (1, p)) _ _ (mapped_twice chain r) (tree_row all u w _ p (one_row chain (λ k. Nothing ∷ replicate k (Over Cons)) chain_made all u v w r n p d i m))

pub over_row : (h : Head) (all : List Sign) (u v w : Trail) (r : Read Role (List Tree)) (n p : ℕ) → IsRow all u v r n p → w.uses.items ≡ v.uses.items → w.makes.items ≡ v.makes.items ++ over_parts h n → IsRow all u w (r >>= mapped (λ ts. over h ts ∷ [])) 1 p
over_row h all u v w r n p d i m = makes_same all u w (Ok (1, p)) _ _ (mapped_twice (over h) r) (tree_row all u w _ p (one_row (over h) (over_parts h) (over_made h) all u v w r n p d i m))

-- the same for a piece that says so
pub outer_piece : (table : Table) (depth : ℕ) (row : ℕ → TreesForm) (c : Piece) (f : Outer) (all ts : List Sign) (u v : Trail) (p : ℕ) → c ≡ node.Phrase f → IsMade postorder all u v (read_marked depth (outer_form f) ts) p → IsRow all u v (table_reads table depth (piece_form row c) ts) 1 p
outer_piece table depth row c f all ts u v p e d = subst (λ x. IsRow all u v (table_reads table depth (piece_form row x) ts) 1 p) (sym e) (outer_row table depth (outer_form f) all ts u v p d)

pub chain_piece : (table : Table) (depth : ℕ) (row : ℕ → TreesForm) (c : Piece) (r : ℕ) (all ts : List Sign) (u v w : Trail) (n p : ℕ) → c ≡ Chain r → IsRow all u v (table_reads table depth (row r) ts) n p → w.uses.items ≡ v.uses.items → w.makes.items ≡ v.makes.items ++ (Nothing ∷ replicate n (Over Cons)) → IsRow all u w (table_reads table depth (piece_form row c) ts) 1 p
chain_piece table depth row c r all ts u v w n p e d i m = subst (λ x. IsRow all u w (table_reads table depth (piece_form row x) ts) 1 p) (sym e) (chain_row all u v w (table_reads table depth (row r) ts) n p d i m)

pub over_piece : (table : Table) (depth : ℕ) (row : ℕ → TreesForm) (c : Piece) (h : Head) (r : ℕ) (all ts : List Sign) (u v w : Trail) (n p : ℕ) → c ≡ node.Over h r → IsRow all u v (table_reads table depth (row r) ts) n p → w.uses.items ≡ v.uses.items → w.makes.items ≡ v.makes.items ++ over_parts h n → IsRow all u w (table_reads table depth (piece_form row c) ts) 1 p
over_piece table depth row c h r all ts u v w n p e d i m = subst (λ x. IsRow all u w (table_reads table depth (piece_form row x) ts) 1 p) (sym e) (over_row h all u v w (table_reads table depth (row r) ts) n p d i m)

-- the fault that it passes on
passed_row : (all : List Sign) (u v : Trail) (result : Result (ℕ × ℕ) ReadError) (e : ReadError) (r : Read Role (List Tree)) → IsErrAnd result (λ x. x ≡ e) → Fails all e r → MakesRow all u v result r
passed_row all u v (Ok x) e r i h = absurd i
passed_row all u v (Err x) e r i h = subst (λ y. Fails all y r) (sym i) h

pub outer_missing : (table : Table) (depth : ℕ) (row : ℕ → TreesForm) (c : Piece) (f : Outer) (all ts : List Sign) (u v : Trail) (result : Result (ℕ × ℕ) ReadError) (e : ReadError) → c ≡ node.Phrase f → IsErrAnd result (λ x. x ≡ e) → Fails all e (read_marked depth (outer_form f) ts) → MakesRow all u v result (table_reads table depth (piece_form row c) ts)
outer_missing table depth row c f all ts u v result e i j h =
    makes_same all u v result _ _ (ap (λ x. table_reads table depth (piece_form row x) ts) i)
    (passed_row all u v result e _ j (outer_fails table depth (outer_form f) all ts e h))

-- The whole is what was read so far, and what is read from the place on.
pub record SoFar (all : List Sign) (old new : Trail) (whole rest : Read Role (List Tree)) (count place : ℕ) : Type 0 where
  pub value : List Tree
  pub uses : List (Use Role)
  pub is : whole ≡ (rest >>= prefixed value uses)
  pub noted : uses_of new.uses.items ≡ uses_of old.uses.items ++ uses
  pub within : place ≤ length all
  pub makes : new.makes.items ≡ old.makes.items ++ flat_map postorder value
  pub many : count ≡ length value

nothing_then : (r : Read Role (List Tree)) → r ≡ (r >>= prefixed [] [])
nothing_then (Err e) = refl
nothing_then (Ok y) = refl

then_then : (xs ys : List Tree) (us vs : List (Use Role)) (r : Read Role (List Tree)) → ((r >>= prefixed ys vs) >>= prefixed xs us) ≡ (r >>= prefixed (xs ++ ys) (us ++ vs))
then_then xs ys us vs (Err e) = refl
then_then xs ys us vs (Ok y) = ap₂ (λ bs ws. found bs ws y.rest) (sym (append_assoc xs ys y.value)) (sym (append_assoc us vs y.uses))

flat_append : (xs ys : List Tree) → flat_map postorder (xs ++ ys) ≡ flat_map postorder xs ++ flat_map postorder ys
flat_append [] ys = refl
flat_append (x ∷ xs) ys = ap (λ l. postorder x ++ l) (flat_append xs ys) ∙ sym (append_assoc (postorder x) (flat_map postorder xs) (flat_map postorder ys))

pub far_begins : (all : List Sign) (t : Trail) (whole rest : Read Role (List Tree)) (at : ℕ) → at ≤ length all → whole ≡ rest → SoFar all t t whole rest 0 at
far_begins all t whole rest at l e = record {
  value = [];
  uses = [];
  is = e ∙ nothing_then rest;
  noted = sym (append-nil (uses_of t.uses.items));
  within = l;
  makes = sym (append-nil t.makes.items);
  many = refl;
}

pub far_goes : (all : List Sign) (u v w : Trail) (whole rest one next : Read Role (List Tree)) (count more k p q : ℕ) → SoFar all u v whole rest count p → (d : IsRow all v w one more q) → k ≡ count + more → rest ≡ (next >>= prefixed d.value d.read.uses) → SoFar all u w whole next k q
far_goes all u v w whole rest one next count more k p q so d s e = record {
  value = so.value ++ d.value;
  uses = so.uses ++ d.read.uses;
  is = so.is ∙ (ap (λ r. r >>= prefixed so.value so.uses) e ∙ then_then so.value d.value so.uses d.read.uses next);
  noted = d.read.noted ∙ (ap (λ l. l ++ d.read.uses) so.noted ∙ append_assoc (uses_of u.uses.items) so.uses d.read.uses);
  within = d.read.within;
  makes = d.makes ∙ (ap (λ l. l ++ flat_map postorder d.value) so.makes ∙ (append_assoc u.makes.items (flat_map postorder so.value) (flat_map postorder d.value) ∙ ap (λ l. u.makes.items ++ l) (sym (flat_append so.value d.value))));
  many = s ∙ (ap₂ ◌+◌ so.many d.many ∙ sym (length-append so.value d.value));
}

-- pieces one behind another

joined_then : (x : Found Role (List Tree)) (r : Read Role (List Tree)) → ((r >>= joined x) >>= mapped both_of) ≡ (r >>= prefixed x.value x.uses)
joined_then x (Err e) = refl
joined_then x (Ok y) = refl

pub pieces_next : (table : Table) (n : ℕ) (row : ℕ → TreesForm) (ps : List Piece) (k : ℕ) (c : Piece) (all : List Sign) (v w : Trail) (more p q : ℕ) → k < length ps → (d : IsRow all v w (table_reads table n (piece_form row (get_or ps k c)) (drop p all)) more q) → table_reads table n (row_form row (drop k ps)) (drop p all) ≡ (table_reads table n (row_form row (drop (k + 1) ps)) (drop q all) >>= prefixed d.value d.read.uses)
pieces_next table n row ps k c all v w more p q h d =
    ap (λ l. table_reads table n (row_form row l) (drop p all)) (drop_at ps k c h)
    ∙ (ap (λ r. (r >>= λ y. table_reads table n (row_form row (drop (k + 1) ps)) y.rest >>= joined y) >>= mapped both_of) d.read.is
    ∙ joined_then (record { value = d.value; uses = d.read.uses; rest = drop q all }) (table_reads table n (row_form row (drop (k + 1) ps)) (drop q all)))

-- a row of the table, and none
pub row_makes : (rows : List (Bor (List Piece))) (depth n r : ℕ) (d : Bor (List Piece)) (all ts : List Sign) (u v : Trail) (result : Result (ℕ × ℕ) ReadError) → r < n → n ≤ length rows → MakesRow all u v result (table_reads (rows_of rows) depth (row_form (form (rows_of rows) r) (get_or rows r d).now) ts) → MakesRow all u v result (table_reads (rows_of rows) depth (form (rows_of rows) n r) ts)
row_makes rows depth n r d all ts u v result h l m = makes_same all u v result _ _ (ap (λ f. table_reads (rows_of rows) depth f ts) (form_at rows n r d h l)) m

nowhere_read : (table : Table) (n : ℕ) (ts : List Sign) → table_below table n Nowhere ts ≡ Err (Syntax (length ts))
unfolding read_sort
nowhere_read table zero [] = refl
nowhere_read table zero (t ∷ ts) = refl
nowhere_read table (suc zero) ts = nowhere_read table zero ts
nowhere_read table (suc (suc n)) ts = nowhere_read table (suc n) ts

never_fails : (table : Table) (depth : ℕ) (all : List Sign) (at : ℕ) → at ≤ length all → Fails all (error.Syntax at) (table_reads table depth never (drop at all))
never_fails table depth all at l =
    (l, ap (λ x. x >>= mapped (λ t. t ∷ [])) (nowhere_read table depth (drop at all)) ∙ ap (λ k. let y : Read Role (List Tree) = Err (Syntax k) in y) (length-drop at all))

pub no_row : (table : Table) (depth n r : ℕ) (all : List Sign) (at : ℕ) → at ≤ length all → n ≤ r → Fails all (error.Syntax at) (table_reads table depth (form table n r) (drop at all))
no_row table depth n r all at l h = fails_same all (error.Syntax at) _ _ (ap (λ f. table_reads table depth f (drop at all)) (form_none table n r h)) (never_fails table depth all at l)

-- a choice is the one or the other
pick_first : {A : Type 0} (b : Bool) (p q : Reader Role A) (ts : List Sign) → b ≡ true → pick b p q ts ≡ p ts
pick_first true p q ts h = refl
pick_first false p q ts h = absurd (cc)

pick_second : {A : Type 0} (b : Bool) (p q : Reader Role A) (ts : List Sign) → b ≡ false → pick b p q ts ≡ q ts
pick_second true p q ts h = absurd (cc)
pick_second false p q ts h = refl

pub choose_found : (rows : List (Bor (List Piece))) (bound r e : ℕ) (ts : List Sign) (d : ℕ) → r < e → next_is (starts (table_heads (rows_of rows)) (form (rows_of rows) bound r)) ts ≡ true → table_reads (rows_of rows) d (one_of (form (rows_of rows) bound) r (e - r)) ts ≡ table_reads (rows_of rows) d (form (rows_of rows) bound r) ts
choose_found rows bound r e ts d l h =
    ap (λ f. table_reads (rows_of rows) d f ts) (one_more_law (form (rows_of rows) bound) r e l)
    ∙ pick_first (next_is (starts (table_heads (rows_of rows)) (form (rows_of rows) bound r)) ts) (table_reads (rows_of rows) d (form (rows_of rows) bound r)) (table_reads (rows_of rows) d (one_of (form (rows_of rows) bound) (r + 1) (e - (r + 1)))) ts h

pub choose_skip : (rows : List (Bor (List Piece))) (bound r e : ℕ) (ts : List Sign) (d : ℕ) → r < e → next_is (starts (table_heads (rows_of rows)) (form (rows_of rows) bound r)) ts ≡ false → table_reads (rows_of rows) d (one_of (form (rows_of rows) bound) r (e - r)) ts ≡ table_reads (rows_of rows) d (one_of (form (rows_of rows) bound) (r + 1) (e - (r + 1))) ts
choose_skip rows bound r e ts d l h =
    ap (λ f. table_reads (rows_of rows) d f ts) (one_more_law (form (rows_of rows) bound) r e l)
    ∙ pick_second (next_is (starts (table_heads (rows_of rows)) (form (rows_of rows) bound r)) ts) (table_reads (rows_of rows) d (form (rows_of rows) bound r)) (table_reads (rows_of rows) d (one_of (form (rows_of rows) bound) (r + 1) (e - (r + 1)))) ts h

pub none_piece : (rows : List (Bor (List Piece))) (bound depth first count : ℕ) (c : Piece) (all : List Sign) (at : ℕ) → at ≤ length all → c ≡ node.OneOf first count → Chooses rows bound first count (drop at all) never → Fails all (error.Syntax at) (table_reads (rows_of rows) depth (piece_form (form (rows_of rows) bound) c) (drop at all))
none_piece rows bound depth first count c all at l e h = fails_same all (error.Syntax at) _ _ (ap (λ x. table_reads (rows_of rows) depth (piece_form (form (rows_of rows) bound) x) (drop at all)) e ∙ h depth) (never_fails (rows_of rows) depth all at l)

-- a part that may be missing
there : (r : Read Role (List Tree)) → ((r >>= mapped Some) >>= mapped perhaps) ≡ r
there (Ok x) = refl
there (Err e) = refl

pub some_makes : (table : Table) (n : ℕ) (f : TreesForm) (all ts : List Sign) (u v : Trail) (result : Result (ℕ × ℕ) ReadError) → next_is (starts (table_heads table) f) ts ≡ true → MakesRow all u v result (table_reads table n f ts) → MakesRow all u v result (table_reads table n (maybe_form false f) ts)
some_makes table n f all ts u v result h m =
    makes_same all u v result _ _
    (ap (λ x. x >>= mapped perhaps) (pick_first (next_is (starts (table_heads table) f) ts) (λ us. table_reads table n f us >>= mapped Some) (nothing None) ts h) ∙ there (table_reads table n f ts)) m

pub none_row : (table : Table) (n : ℕ) (f : TreesForm) (all : List Sign) (t : Trail) (at : ℕ) → at ≤ length all → next_is (starts (table_heads table) f) (drop at all) ≡ false → IsRow all t t (table_reads table n (maybe_form false f) (drop at all)) 0 at
none_row table n f all t at l h = nothing_row all t _ at l (ap (λ x. x >>= mapped perhaps) (pick_second (next_is (starts (table_heads table) f) (drop at all)) (λ us. table_reads table n f us >>= mapped Some) (nothing None) (drop at all) h))

-- the empty phrase
none_begins : (table : Table) (ts : List Sign) → next_is (starts (table_heads table) never) ts ≡ false
none_begins table [] = refl
none_begins table (t ∷ ts) = nowhere table 8 (kind_of t)

pub blank_row : (table : Table) (n : ℕ) (all : List Sign) (t : Trail) (at : ℕ) → at ≤ length all → IsRow all t t (table_reads table n blank (drop at all)) 0 at
blank_row table n all t at l = none_row table n never all t at l (none_begins table (drop at all))

-- a repeated part, with so many turns left
abbrev pub turns_read : Table → ℕ → TreesForm → ℕ → List Sign → Read Role (List Tree)
turns_read table n f turns ts = read_many (starts (table_heads table) f) (table_reads table n f) turns ts >>= mapped all_of

pub turns_begin : (table : Table) (n : ℕ) (f : TreesForm) (all : List Sign) (at : ℕ) → table_reads table n (many_form false f) (drop at all) ≡ turns_read table n f (length all - at) (drop at all)
turns_begin table n f all at = ap (λ k. turns_read table n f k (drop at all)) (length-drop at all)

one_then : (x : Found Role (List Tree)) (r : Read Role (List (List Tree))) → ((r >>= one_more x) >>= mapped all_of) ≡ ((r >>= mapped all_of) >>= prefixed x.value x.uses)
one_then x (Err e) = refl
one_then x (Ok y) = refl

pub turns_next : (table : Table) (n : ℕ) (f : TreesForm) (turns : ℕ) (all : List Sign) (v w : Trail) (more p q : ℕ) → 0 < turns → next_is (starts (table_heads table) f) (drop p all) ≡ true → (d : IsRow all v w (table_reads table n f (drop p all)) more q) → turns_read table n f turns (drop p all) ≡ (turns_read table n f (turns - 1) (drop q all) >>= prefixed d.value d.read.uses)
turns_next table n f zero all v w more p q l h d = absurd (omega arith)
turns_next table n f (suc turns) all v w more p q l h d =
    let e : suc turns - 1 ≡ turns = omega arith in
    ap (λ r. r >>= mapped all_of) (pick_first (next_is (starts (table_heads table) f) (drop p all)) (λ us. table_reads table n f us >>= λ x. read_many (starts (table_heads table) f) (table_reads table n f) turns x.rest >>= one_more x) (nothing []) (drop p all) h)
    ∙ (ap (λ r. (r >>= λ x. read_many (starts (table_heads table) f) (table_reads table n f) turns x.rest >>= one_more x) >>= mapped all_of) d.read.is
    ∙ (one_then (record { value = d.value; uses = d.read.uses; rest = drop q all }) (read_many (starts (table_heads table) f) (table_reads table n f) turns (drop q all))
    ∙ ap (λ k. turns_read table n f k (drop q all) >>= prefixed d.value d.read.uses) (sym e)))

pub rows_many : (rows : List (Bor (List Piece))) → length (rows_of rows) ≡ length rows
rows_many [] = refl
rows_many (x ∷ rows) = ap suc (rows_many rows)

pub below_fails : (rows : List (Bor (List Piece))) (n r : ℕ) (all : List Sign) (e : ReadError) (c : Bool) (at : ℕ) → n ≤ 0 → c ≡ next_is (starts (fronts (rows_of rows) 7) (form (rows_of rows) (length rows) r)) (drop at all) → Shallow all e c at → Fails all e (table_below (rows_of rows) n (Row r) (drop at all))
below_fails rows zero r all e c at l i h = subst (λ x. Shallow all e x at) (i ∙ ap (λ k. next_is (starts (fronts (rows_of rows) 7) (form (rows_of rows) k r)) (drop at all)) (sym (rows_many rows))) h
below_fails rows (suc n) r all e c at l i h = absurd (omega arith)

-- a sort is its row, with its trees as one
row_sort : (table : Table) (n r : ℕ) (ts : List Sign) → read_sort (table_heads table) (table_rule table) n (Row r) ts ≡ (table_reads table n (row_phrase table r) ts >>= mapped single)
unfolding read_sort
row_sort table zero r ts = refl
row_sort table (suc n) r ts = refl

sort_is : (rows : List (Bor (List Piece))) (n r : ℕ) (ts : List Sign) → read_sort (table_heads (rows_of rows)) (table_rule (rows_of rows)) n (Row r) ts ≡ (table_reads (rows_of rows) n (form (rows_of rows) (length rows) r) ts >>= mapped single)
sort_is rows n r ts = row_sort (rows_of rows) n r ts ∙ ap (λ k. table_reads (rows_of rows) n (form (rows_of rows) k r) ts >>= mapped single) (rows_many rows)

pub sort_makes : (rows : List (Bor (List Piece))) (n r : ℕ) (all : List Sign) (at : ℕ) (u v w : Trail) (count p : ℕ) → IsRow all u v (table_reads (rows_of rows) n (form (rows_of rows) (length rows) r) (drop at all)) count p → w.uses.items ≡ v.uses.items → w.makes.items ≡ v.makes.items ++ single_parts count → Makes postorder all u w (Ok p) (read_sort (table_heads (rows_of rows)) (table_rule (rows_of rows)) n (Row r) (drop at all))
sort_makes rows n r all at u v w count p d i m = subst (λ x. Makes postorder all u w (Ok p) x) (sym (sort_is rows n r (drop at all))) (one_row single single_parts single_made all u v w _ count p d i m)

pub sort_fails : (rows : List (Bor (List Piece))) (n r : ℕ) (all : List Sign) (at : ℕ) (u w : Trail) (e : ReadError) (result : Result ℕ ReadError) → IsErrAnd result (λ x. x ≡ e) → Fails all e (table_reads (rows_of rows) n (form (rows_of rows) (length rows) r) (drop at all)) → Makes postorder all u w result (read_sort (table_heads (rows_of rows)) (table_rule (rows_of rows)) n (Row r) (drop at all))
sort_fails rows n r all at u w e result i h = passed_makes postorder all u w result e _ i (fails_same all e _ _ (sort_is rows n r (drop at all)) (fails_bind all e _ (mapped single) h))

pub ruleset readers = (fails_bind, tree_row, outer_row, outer_fails, sign_row, script_word_row, blank_row, none_row, some_makes, room, no_room)
