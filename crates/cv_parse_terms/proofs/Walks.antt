-- Steps over the tokens, as the code takes them.
use Rattle.std.proofs.Common.{◌≡◌, ℕ, zero, suc, ◌+◌, ◌-◌, ◌<◌, ◌≤◌, Bool, true, false, List, [], ◌∷◌, ◌++◌, length, drop, refl, ap, ap₂, sym, ◌∙◌, arith, subst, append-nil, append_assoc, reverse, length-drop, get_or, slice_index_or, eqb, eqb-true, Option, Some, None, Result, Ok, Err, IfOk, IfErr, IsErrAnd}
use Rattle.std.specs.Prelude.{replicate, MatchOption, option_to_list, unwrap_or}
use Rattle.std.proofs.lemmas.Bool.{eqb-false}
use Rattle.std.proofs.lemmas.List.{length-map, reverse-append}
use Rattle.std.specs.Borrow.{Bor}
use Rattle.cv_syntax.specs.declared.make.Make.{Make}
use Rattle.cv_syntax.specs.declared.make.Make.TheVariants.{Nothing, Over}
use Rattle.cv_syntax_trees.specs.declared.head.Head.{Head}
use Rattle.cv_parse_notation.specs.declared.sign.Sign.{Sign}
use Rattle.cv_parse_notation.specs.declared.sign.Mark.{Mark}
use Rattle.cv_parse_notation.specs.Spells.{next_is, is_mark}
use Rattle.cv_parse_notation.specs.Reads.{Fault, Syntax, Nesting, Read, read_sign, read_word, read_nought, read_find, read_number}
use Rattle.cv_parse_grammar.specs.declared.role.Role.{Role}
use Rattle.cv_parse_terms.specs.declared.lookahead.ReadError.{ReadError}
use Rattle.cv_parse_terms.specs.declared.lookahead.ReadError.TheVariants as error
use Rattle.cv_parse_terms.specs.declared.trail.Trail.{Trail}
use Rattle.cv_parse_terms.specs.declared.piece.Ahead.{Ahead}
use Rattle.cv_parse_terms.specs.declared.piece.Naming.{Naming}
use Rattle.cv_parse_terms.specs.declared.piece.Pairing.{Pairing}
use Rattle.cv_parse_terms.specs.declared.piece.Closing.{Closing}
use Rattle.cv_parse_terms.specs.declared.piece.Piece.{Piece}
use Rattle.cv_parse_terms.specs.declared.piece.Piece.TheVariants as node
use Rattle.cv_parse_terms.specs.Gives.{Fails, IsPlain, IsRead, Passes, Shallow, Stands, positive, read_note, uses_of}
use Rattle.cv_parse_terms.specs.Tables.{Parts, Work, Step, Runs, Stops, Table, and_then, begins, below_step, bounds, bounds_head, changed, chosen, closed, closer, ended, instead, last_name, made_no_part, more, named, head_of, other_names, pair_of, paired, repeated, no_room, parts_of, piece_in, pieces_in, pieces_step, put, put_before, refused, row_in, rows_of, twice, waits, work_of}

-- faults

pub fails_put : {A : Type 0} (e : A → Parts → Parts) (all : List Sign) (x : ReadError) (w : Work) (r : Read Role A) → Fails all x r → Stops all x (put e w r)
fails_put e all (error.Syntax k) w r h = (h.0, ap (put e w) h.1)
fails_put e all (error.Nesting k) w r h = (h.0, ap (put e w) h.1)
fails_put e all error.OutOfMemory w r h = tt

pub stops_then : (all : List Sign) (x : ReadError) (r : Result Work Fault) (p : Step) → Stops all x r → Stops all x (and_then r p)
stops_then all (error.Syntax k) r p h = (h.0, ap (λ y. and_then y p) h.1)
stops_then all (error.Nesting k) r p h = (h.0, ap (λ y. and_then y p) h.1)
stops_then all error.OutOfMemory r p h = tt

pub stops_same : (all : List Sign) (x : ReadError) (r s : Result Work Fault) → s ≡ r → Stops all x r → Stops all x s
stops_same all x r s h d = subst (λ y. Stops all x y) (sym h) d

pub stops_here : (all : List Sign) (at : ℕ) (t : Trail) (ns : List ℕ) → at ≤ length all → Stops all (error.Syntax at) (Err (Syntax (length (work_of t ns (drop at all)).rest)))
stops_here all at t ns l = (l, ap (λ n. let r : Result Work Fault = Err (Syntax n) in r) (length-drop at all))

-- the fault where no level is left
refused_of : (all : List Sign) (x : ReadError) (b : Bool) (at : ℕ) → Shallow all x b at → Stops all x (Err (no_room b (length (drop at all))))
refused_of all (error.Syntax k) true at h = absurd (cc)
refused_of all (error.Syntax k) false at h = (h.0, let e : Syntax (length (drop at all)) ≡ Syntax (length all - k) = cc in ap (λ f. let r : Result Work Fault = Err f in r) e)
refused_of all (error.Nesting k) true at h = (h.0, let e : Nesting (length (drop at all)) ≡ Nesting (length all - k) = cc in ap (λ f. let r : Result Work Fault = Err f in r) e)
refused_of all (error.Nesting k) false at h = absurd (cc)
refused_of all error.OutOfMemory b at h = tt

pub refused_stops : (all : List Sign) (x : ReadError) (a : Ahead) (b : Bool) (at : ℕ) (t : Trail) (ns : List ℕ) → b ≡ next_is (begins a) (drop at all) → Shallow all x b at → Stops all x (refused a (work_of t ns (drop at all)))
refused_stops all x a b at t ns h d = subst (λ c. Stops all x (Err (no_room c (length (drop at all))))) h (refused_of all x b at d)

-- tokens

put_read : {A : Type 0} (e : A → Parts → Parts) (all : List Sign) (s t : Trail) (ns ms : List ℕ) (ts : List Sign) (r : Read Role A) (a : A) (p : ℕ) → IsRead all s.uses.items t.uses.items r a p → parts_of t ms ≡ e a (parts_of s ns) → Runs all (Ok p) t ms (put e (work_of s ns ts) r)
put_read e all s t ns ms ts r a p d h =
    (d.within, ap (put e (work_of s ns ts)) d.is ∙ ap₂ (λ q us. let w : Result Work Fault = Ok (record { parts = q; uses = us; rest = drop p all }) in w) (sym h) (sym d.noted))

pub sign_runs : (all : List Sign) (t : Trail) (ns : List ℕ) (m : Mark) (at : ℕ) (r : Result ℕ ReadError) → IfOk r (λ end. Stands all m at end) → IfErr r (λ x. Fails all x (read_sign m (drop at all))) → Runs all r t ns (put made_no_part (work_of t ns (drop at all)) (read_sign m (drop at all)))
sign_runs all t ns m at (Ok end) s f =
    (s.1, ap (put made_no_part (work_of t ns (drop at all))) s.2 ∙ ap₂ (λ us k. let w : Result Work Fault = Ok (record { parts = parts_of t ns; uses = us; rest = drop k all }) in w) (append-nil (uses_of t.uses.items)) (sym s.0))
sign_runs all t ns m at (Err x) s f = fails_put made_no_part all x (work_of t ns (drop at all)) (read_sign m (drop at all)) f

pub word_runs : (all : List Sign) (s t : Trail) (ns ms : List ℕ) (role : Role) (at x p : ℕ) → IsRead all s.uses.items t.uses.items (read_word role (drop at all)) x p → t.makes ≡ s.makes → ms ≡ ns ++ x ∷ [] → Runs all (Ok p) t ms (put waits (work_of s ns (drop at all)) (read_word role (drop at all)))
word_runs all s t ns ms role at x p d m n = put_read waits all s t ns ms (drop at all) (read_word role (drop at all)) x p d (ap₂ (λ xs v. let q : Parts = record { names = xs; makes = v.items } in q) (ap reverse n ∙ reverse-append ns (x ∷ [])) m)

pub zero_runs : (all : List Sign) (t : Trail) (ns : List ℕ) (at : ℕ) (r : Result ℕ ReadError) → Passes all r (read_nought (drop at all)) → Runs all r t ns (put made_no_part (work_of t ns (drop at all)) (read_nought (drop at all)))
zero_runs all t ns at (Ok end) d = (d.within, ap (put made_no_part (work_of t ns (drop at all))) d.is ∙ ap (λ us. let w : Result Work Fault = Ok (record { parts = parts_of t ns; uses = us; rest = drop end all }) in w) (append-nil (uses_of t.uses.items)))
zero_runs all t ns at (Err x) d = fails_put made_no_part all x (work_of t ns (drop at all)) (read_nought (drop at all)) d

plain_runs : (e : ℕ → Parts → Parts) (all : List Sign) (s t : Trail) (ns ms : List ℕ) (ts : List Sign) (r : Read Role ℕ) (x p : ℕ) → IsPlain all r x p → t.uses ≡ s.uses → parts_of t ms ≡ e x (parts_of s ns) → Runs all (Ok p) t ms (put e (work_of s ns ts) r)
plain_runs e all s t ns ms ts r x p d u h =
    (d.within, ap (put e (work_of s ns ts)) d.is ∙ ap₂ (λ q us. let w : Result Work Fault = Ok (record { parts = q; uses = us; rest = drop p all }) in w) (sym h) (append-nil (uses_of s.uses.items) ∙ sym (ap (λ v. uses_of v.items) u)))

pub find_runs : (all : List Sign) (t : Trail) (ns ms : List ℕ) (at x p : ℕ) → IsPlain all (read_find (drop at all)) x p → ms ≡ ns ++ x ∷ [] → Runs all (Ok p) t ms (put waits (work_of t ns (drop at all)) (read_find (drop at all)))
find_runs all t ns ms at x p d n = plain_runs waits all t t ns ms (drop at all) (read_find (drop at all)) x p d refl (ap (λ xs. let q : Parts = record { names = xs; makes = t.makes.items } in q) (ap reverse n ∙ reverse-append ns (x ∷ [])))

pub number_runs : (all : List Sign) (t : Trail) (ns ms ls : List ℕ) (at x p : ℕ) → IsPlain all (read_number (drop at all)) x p → reverse ms ≡ other_names (reverse ns) → ls ≡ ms ++ x ∷ [] → Runs all (Ok p) t ls (put instead (work_of t ns (drop at all)) (read_number (drop at all)))
number_runs all t ns ms ls at x p d n m = plain_runs instead all t t ns ls (drop at all) (read_number (drop at all)) x p d refl (ap (λ xs. let q : Parts = record { names = xs; makes = t.makes.items } in q) (ap reverse m ∙ (reverse-append ms (x ∷ []) ∙ ap (λ l. x ∷ l) n)))

pub note_runs : (all : List Sign) (s t : Trail) (ns : List ℕ) (role : Role) (at n : ℕ) → IsRead all s.uses.items t.uses.items (read_note role (drop at all)) n at → t.makes ≡ s.makes → Runs all (Ok at) t ns (put made_no_part (work_of s ns (drop at all)) (read_note role (drop at all)))
note_runs all s t ns role at n d m = put_read made_no_part all s t ns ns (drop at all) (read_note role (drop at all)) n at d (ap (λ v. let q : Parts = record { names = reverse ns; makes = v.items } in q) m)

-- the name that waits last leaves

none_waits : (ns : List ℕ) → length ns ≡ 0 → ns ≡ []
none_waits [] h = refl
none_waits (x ∷ ns) h = absurd (omega (arith, h))

pub last_leaves : (ns ms : List ℕ) (o : Option ℕ) (x : ℕ) → ns ≡ ms ++ option_to_list o → MatchOption o ((length ns ≡ 0) × (length ms ≡ 0)) (λ _. length ms + 1 ≡ length ns) → x ≡ unwrap_or o 0 → (x ≡ last_name (reverse ns)) × (reverse ms ≡ other_names (reverse ns))
last_leaves ns ms (Some y) x e n i =
    let r : reverse ns ≡ y ∷ reverse ms = ap reverse e ∙ reverse-append ms (y ∷ []) in
    (i ∙ sym (ap last_name r), sym (ap other_names r))
last_leaves ns ms None x e n i =
    let empty : ns ≡ [] = none_waits ns n.0 in
    let same : ms ≡ [] = none_waits ms n.1 in
    (i ∙ sym (ap (λ l. last_name (reverse l)) empty), ap reverse same ∙ sym (ap (λ l. other_names (reverse l)) empty))

pub name_leaves : (h : Naming) (s t : Trail) (ns ms : List ℕ) (x : ℕ) (k : Head) → x ≡ last_name (reverse ns) → reverse ms ≡ other_names (reverse ns) → k ≡ head_of h x → t.makes.items ≡ s.makes.items ++ Over k ∷ [] → parts_of t ms ≡ named h (parts_of s ns)
name_leaves h s t ns ms x k a b d m =
    ap₂ (λ l y. let q : Parts = record { names = l; makes = y } in q) b (m ∙ ap (λ z. s.makes.items ++ Over z ∷ []) (d ∙ ap (head_of h) a))

pub pair_leaves : (h : Pairing) (s t : Trail) (ns ms ls : List ℕ) (x y : ℕ) (k : Head) → y ≡ last_name (reverse ns) → reverse ms ≡ other_names (reverse ns) → x ≡ last_name (reverse ms) → reverse ls ≡ other_names (reverse ms) → k ≡ pair_of h x y → t.makes.items ≡ s.makes.items ++ Over k ∷ [] → parts_of t ls ≡ paired h (parts_of s ns)
pair_leaves h s t ns ms ls x y k a b d e f m =
    ap₂ (λ l z. let q : Parts = record { names = l; makes = z } in q) (e ∙ ap other_names b) (m ∙ ap (λ z. s.makes.items ++ Over z ∷ []) (f ∙ ap₂ (pair_of h) (d ∙ ap last_name b) a))

-- names in another order

pub name_pushed : (ns ms : List ℕ) (x : ℕ) → ms ≡ ns ++ x ∷ [] → reverse ms ≡ x ∷ reverse ns
name_pushed ns ms x e = ap reverse e ∙ reverse-append ns (x ∷ [])

pub goes_twice : (ns ms ls ks : List ℕ) (x : ℕ) → x ≡ last_name (reverse ns) → reverse ms ≡ other_names (reverse ns) → reverse ls ≡ x ∷ reverse ms → reverse ks ≡ x ∷ reverse ls → reverse ks ≡ twice (reverse ns)
goes_twice ns ms ls ks x a b d e = e ∙ (ap (λ l. x ∷ l) (d ∙ ap (λ l. x ∷ l) b) ∙ ap (λ y. y ∷ (y ∷ other_names (reverse ns))) a)

pub goes_before : (n0 n1 n2 n3 n4 n5 n6 m1 m2 m3 m4 m5 m6 : List ℕ) (x1 x2 x3 x4 x5 x6 y : ℕ) → x1 ≡ last_name n0 → n1 ≡ other_names n0 → x2 ≡ last_name n1 → n2 ≡ other_names n1 → x3 ≡ last_name n2 → n3 ≡ other_names n2 → y ≡ x3 → x4 ≡ last_name n3 → n4 ≡ other_names n3 → x5 ≡ last_name n4 → n5 ≡ other_names n4 → x6 ≡ last_name n5 → n6 ≡ other_names n5 → m1 ≡ x2 ∷ n6 → m2 ≡ x1 ∷ m1 → m3 ≡ x6 ∷ m2 → m4 ≡ x5 ∷ m3 → m5 ≡ x4 ∷ m4 → m6 ≡ (y + 1) ∷ m5 → m6 ≡ put_before n0
goes_before n0 n1 n2 n3 n4 n5 n6 m1 m2 m3 m4 m5 m6 x1 x2 x3 x4 x5 x6 y a1 b1 a2 b2 a3 b3 c a4 b4 a5 b5 a6 b6 d1 d2 d3 d4 d5 d6 = rw (d6, d5, d4, d3, d2, d1, a4, a5, a6, a1, a2, c, a3, b6, b5, b4, b3, b2, b1) refl

pub bounds_leave : (s t : Trail) (ns ms : List ℕ) (n1 n2 n3 : List ℕ) (k x4 x3 x2 : ℕ) (h : Head) (makes : List Make) → k ≡ last_name (reverse ns) → n1 ≡ other_names (reverse ns) → x4 ≡ last_name n1 → n2 ≡ other_names n1 → x3 ≡ last_name n2 → n3 ≡ other_names n2 → x2 ≡ last_name n3 → reverse ms ≡ other_names n3 → h ≡ bounds_head x4 x2 x3 → makes ≡ s.makes.items ++ Over h ∷ [] → t.makes.items ≡ makes ++ replicate k Nothing → parts_of t ms ≡ bounds (parts_of s ns)
bounds_leave s t ns ms n1 n2 n3 k x4 x3 x2 h makes a1 b1 a2 b2 a3 b3 a4 b4 i d e =
    ap₂ (λ l y. let q : Parts = record { names = l; makes = y } in q) (rw (b4, b3, b2, b1) refl)
    (e ∙ (ap (λ m. m ++ replicate k Nothing) d ∙ (append_assoc s.makes.items (Over h ∷ []) (replicate k Nothing) ∙ rw (i, a4, a3, a2, a1, b3, b2, b1) refl)))

pub repeated_more : (n : ℕ) (f : Parts → Parts) (q : Parts) → repeated (n + 1) f q ≡ f (repeated n f q)
repeated_more n f q = let i : n + 1 ≡ suc n = omega arith in ap (λ k. repeated k f q) i

pub closes_more : (n : ℕ) (c : Closing) (s t u : Trail) (ns ms ls : List ℕ) → parts_of t ms ≡ repeated n (closer c) (ended c (parts_of s ns)) → parts_of u ls ≡ closer c (parts_of t ms) → parts_of u ls ≡ repeated (n + 1) (closer c) (ended c (parts_of s ns))
closes_more n c s t u ns ms ls e d = d ∙ (ap (closer c) e ∙ sym (repeated_more n (closer c) (ended c (parts_of s ns))))

-- pieces one behind another

drop_at : {A : Type 0} (ps : List A) (k : ℕ) (d : A) → k < length ps → drop k ps ≡ get_or ps k d ∷ drop (k + 1) ps
drop_at [] k d h = absurd (omega arith)
drop_at (x ∷ ps) zero d h = refl
drop_at (x ∷ ps) (suc k) d h = let i : suc k + 1 ≡ suc (k + 1) = omega arith in rw i (drop_at ps k d (omega arith))

drop_end : {A : Type 0} (ps : List A) (k : ℕ) → length ps ≤ k → drop k ps ≡ []
drop_end [] zero h = refl
drop_end [] (suc k) h = refl
drop_end (x ∷ ps) zero h = absurd (omega arith)
drop_end (x ∷ ps) (suc k) h = drop_end ps k (omega arith)

pub pieces_go : (one : Piece → Step) (ps : List Piece) (k : ℕ) (d : Piece) (all : List Sign) (w : Work) (t : Trail) (ms : List ℕ) (q : ℕ) (whole : Result Work Fault) → k < length ps → Runs all (Ok q) t ms (one (get_or ps k d) w) → pieces_step one (drop k ps) w ≡ whole → pieces_step one (drop (k + 1) ps) (work_of t ms (drop q all)) ≡ whole
pieces_go one ps k d all w t ms q whole h r e =
    sym (ap (λ l. pieces_step one l w) (drop_at ps k d h) ∙ ap (λ y. and_then y (pieces_step one (drop (k + 1) ps))) r.1) ∙ e

pub pieces_stop : (one : Piece → Step) (ps : List Piece) (k : ℕ) (d : Piece) (all : List Sign) (w : Work) (x : ReadError) (whole : Result Work Fault) → k < length ps → Stops all x (one (get_or ps k d) w) → pieces_step one (drop k ps) w ≡ whole → Stops all x whole
pieces_stop one ps k d all w x whole h r e =
    stops_same all x _ whole (sym e) (stops_same all x _ _ (ap (λ l. pieces_step one l w) (drop_at ps k d h)) (stops_then all x (one (get_or ps k d) w) (pieces_step one (drop (k + 1) ps)) r))

pub pieces_end : (one : Piece → Step) (ps : List Piece) (k : ℕ) (all : List Sign) (t : Trail) (ns : List ℕ) (p : ℕ) (whole : Result Work Fault) → length ps ≤ k → p ≤ length all → pieces_step one (drop k ps) (work_of t ns (drop p all)) ≡ whole → Runs all (Ok p) t ns whole
pieces_end one ps k all t ns p whole h l e = (l, sym e ∙ ap (λ x. pieces_step one x (work_of t ns (drop p all))) (drop_end ps k h))

-- a list

chosen_first : (b : Bool) (p q : Step) (w : Work) → b ≡ true → chosen b p q w ≡ p w
chosen_first true p q w h = refl
chosen_first false p q w h = absurd (cc)

chosen_second : (b : Bool) (p q : Step) (w : Work) → b ≡ false → chosen b p q w ≡ q w
chosen_second true p q w h = absurd (cc)
chosen_second false p q w h = refl

more_first : (c : Closing) (m : Mark) (p : Step) (n k : ℕ) (w : Work) → 0 < n → next_is (is_mark m) w.rest ≡ true → more c m p n k w ≡ and_then (and_then (put made_no_part w (read_sign m w.rest)) p) (more c m p (n - 1) (k + 1))
more_first c m p zero k w h e = absurd (omega arith)
more_first c m p (suc n) k w h e =
    let i : n ≡ suc n - 1 = omega arith in
    chosen_first (next_is (is_mark m) w.rest) (λ v. and_then (and_then (put made_no_part v (read_sign m v.rest)) p) (more c m p n (k + 1))) (changed (closed c k)) w e
    ∙ ap (λ j. and_then (and_then (put made_no_part w (read_sign m w.rest)) p) (more c m p j (k + 1))) i

more_second : (c : Closing) (m : Mark) (p : Step) (n k : ℕ) (w : Work) → next_is (is_mark m) w.rest ≡ false → more c m p n k w ≡ changed (closed c k) w
more_second c m p zero k w e = refl
more_second c m p (suc n) k w e = chosen_second (next_is (is_mark m) w.rest) (λ v. and_then (and_then (put made_no_part v (read_sign m v.rest)) p) (more c m p n (k + 1))) (changed (closed c k)) w e

more_zero : (c : Closing) (m : Mark) (p : Step) (n k : ℕ) (w : Work) → n ≤ 0 → more c m p n k w ≡ changed (closed c k) w
more_zero c m p zero k w h = refl
more_zero c m p (suc n) k w h = absurd (omega arith)

pub list_goes : (c : Closing) (m : Mark) (p : Step) (all : List Sign) (s t : Trail) (ns ms : List ℕ) (at next end n k : ℕ) (whole : Result Work Fault) → 0 < n → next_is (is_mark m) (drop at all) ≡ true → Runs all (Ok next) s ns (put made_no_part (work_of s ns (drop at all)) (read_sign m (drop at all))) → Runs all (Ok end) t ms (p (work_of s ns (drop next all))) → more c m p n k (work_of s ns (drop at all)) ≡ whole → more c m p (n - 1) (k + 1) (work_of t ms (drop end all)) ≡ whole
list_goes c m p all s t ns ms at next end n k whole h e a b i =
    sym (more_first c m p n k (work_of s ns (drop at all)) h e
    ∙ (ap (λ y. and_then (and_then y p) (more c m p (n - 1) (k + 1))) a.1 ∙ ap (λ y. and_then y (more c m p (n - 1) (k + 1))) b.1)) ∙ i

pub list_sign_stops : (c : Closing) (m : Mark) (p : Step) (all : List Sign) (s : Trail) (ns : List ℕ) (at n k : ℕ) (x : ReadError) (whole : Result Work Fault) → 0 < n → next_is (is_mark m) (drop at all) ≡ true → Stops all x (put made_no_part (work_of s ns (drop at all)) (read_sign m (drop at all))) → more c m p n k (work_of s ns (drop at all)) ≡ whole → Stops all x whole
list_sign_stops c m p all s ns at n k x whole h e a i =
    stops_same all x _ whole (sym i ∙ more_first c m p n k (work_of s ns (drop at all)) h e)
    (stops_then all x _ (more c m p (n - 1) (k + 1)) (stops_then all x _ p a))

pub list_row_stops : (c : Closing) (m : Mark) (p : Step) (all : List Sign) (s : Trail) (ns : List ℕ) (at next n k : ℕ) (x : ReadError) (whole : Result Work Fault) → 0 < n → next_is (is_mark m) (drop at all) ≡ true → Runs all (Ok next) s ns (put made_no_part (work_of s ns (drop at all)) (read_sign m (drop at all))) → Stops all x (p (work_of s ns (drop next all))) → more c m p n k (work_of s ns (drop at all)) ≡ whole → Stops all x whole
list_row_stops c m p all s ns at next n k x whole h e a b i =
    stops_same all x _ whole (sym i ∙ (more_first c m p n k (work_of s ns (drop at all)) h e ∙ ap (λ y. and_then (and_then y p) (more c m p (n - 1) (k + 1))) a.1))
    (stops_then all x _ (more c m p (n - 1) (k + 1)) b)

closes : (c : Closing) (k at : ℕ) (all : List Sign) (s t : Trail) (ns ms : List ℕ) → t.uses ≡ s.uses → parts_of t ms ≡ closed c k (parts_of s ns) → changed (closed c k) (work_of s ns (drop at all)) ≡ Ok (work_of t ms (drop at all))
closes c k at all s t ns ms u m = ap₂ (λ q v. let w : Result Work Fault = Ok (record { parts = q; uses = uses_of v.items; rest = drop at all }) in w) (sym m) (sym u)

pub list_ends : (c : Closing) (m : Mark) (p : Step) (all : List Sign) (s t : Trail) (ns ms : List ℕ) (at n k : ℕ) (whole : Result Work Fault) → at ≤ length all → next_is (is_mark m) (drop at all) ≡ false → t.uses ≡ s.uses → parts_of t ms ≡ closed c k (parts_of s ns) → more c m p n k (work_of s ns (drop at all)) ≡ whole → Runs all (Ok at) t ms whole
list_ends c m p all s t ns ms at n k whole l e u d i = (l, sym i ∙ (more_second c m p n k (work_of s ns (drop at all)) e ∙ closes c k at all s t ns ms u d))

pub list_is_full : (c : Closing) (m : Mark) (p : Step) (all : List Sign) (s t : Trail) (ns ms : List ℕ) (at n k : ℕ) (whole : Result Work Fault) → at ≤ length all → n ≤ 0 → t.uses ≡ s.uses → parts_of t ms ≡ closed c k (parts_of s ns) → more c m p n k (work_of s ns (drop at all)) ≡ whole → Runs all (Ok at) t ms whole
list_is_full c m p all s t ns ms at n k whole l h u d i = (l, sym i ∙ (more_zero c m p n k (work_of s ns (drop at all)) h ∙ closes c k at all s t ns ms u d))

-- rows

pub row_at : (rows : List (Bor (List Piece))) (r : ℕ) (d : Bor (List Piece)) → r < length rows → slice_index_or (rows_of rows) r [] ≡ (get_or rows r d).now
row_at [] r d h = absurd (omega arith)
row_at (x ∷ rows) zero d h = refl
row_at (x ∷ rows) (suc r) d h = row_at rows r d (omega arith)

pub row_law : (table : Table) (n bound r : ℕ) (w : Work) → r < bound → row_in table n bound r w ≡ pieces_in table n r (slice_index_or table r []) w
row_law table n zero r w h = absurd (omega arith)
row_law table n (suc b) r w h = go (eqb r b) refl (λ i. row_law table n b r w i) where
  go : (c : Bool) → eqb r b ≡ c → (r < b → row_in table n b r w ≡ pieces_in table n r (slice_index_or table r []) w) → row_in table n (suc b) r w ≡ pieces_in table n r (slice_index_or table r []) w
  go true e f =
      chosen_first (eqb r b) (pieces_in table n b (slice_index_or table b [])) (row_in table n b r) w e
      ∙ ap (λ k. pieces_in table n k (slice_index_or table k []) w) (sym (eqb-true r b e))
  go false e f =
      let ne = eqb-false r b e in
      chosen_second (eqb r b) (pieces_in table n b (slice_index_or table b [])) (row_in table n b r) w e ∙ f (omega (arith, ne))

no_row : (table : Table) (n bound r : ℕ) (w : Work) → bound ≤ r → row_in table n bound r w ≡ Err (Syntax (length w.rest))
no_row table n zero r w h = refl
no_row table n (suc b) r w h = go (eqb r b) refl (no_row table n b r w (omega arith)) where
  go : (c : Bool) → eqb r b ≡ c → row_in table n b r w ≡ Err (Syntax (length w.rest)) → row_in table n (suc b) r w ≡ Err (Syntax (length w.rest))
  go true e f = let i = eqb-true r b e in absurd (omega (arith, i))
  go false e f = chosen_second (eqb r b) (pieces_in table n b (slice_index_or table b [])) (row_in table n b r) w e ∙ f

pub runs_same : (all : List Sign) (r : Result ℕ ReadError) (t : Trail) (ns : List ℕ) (x y : Result Work Fault) → y ≡ x → Runs all r t ns x → Runs all r t ns y
runs_same all r t ns x y e h = subst (λ z. Runs all r t ns z) (sym e) h

pub row_runs : (rows : List (Bor (List Piece))) (n bound r : ℕ) (d : Bor (List Piece)) (all : List Sign) (result : Result ℕ ReadError) (t : Trail) (ns : List ℕ) (w : Work) → r < bound → bound ≤ length rows → Runs all result t ns (pieces_in (rows_of rows) n r (get_or rows r d).now w) → Runs all result t ns (row_in (rows_of rows) n bound r w)
row_runs rows n bound r d all result t ns w h l m =
    runs_same all result t ns _ _ (row_law (rows_of rows) n bound r w h ∙ ap (λ ps. pieces_in (rows_of rows) n r ps w) (row_at rows r d (omega arith))) m

pub no_row_stops : (table : Table) (n bound r : ℕ) (all : List Sign) (at : ℕ) (t : Trail) (ns : List ℕ) → at ≤ length all → bound ≤ r → Stops all (error.Syntax at) (row_in table n bound r (work_of t ns (drop at all)))
no_row_stops table n bound r all at t ns l h = stops_same all (error.Syntax at) _ _ (no_row table n bound r (work_of t ns (drop at all)) h) (stops_here all at t ns l)

-- a level

pub below_is : (table : Table) (n : ℕ) (a : Ahead) (r : ℕ) (w : Work) → 0 < n → below_step table n a r w ≡ row_in table (n - 1) (length table) r w
below_is table zero a r w h = absurd (omega arith)
below_is table (suc n) a r w h = let i : n ≡ suc n - 1 = omega arith in ap (λ k. row_in table k (length table) r w) i

pub below_none : (table : Table) (n : ℕ) (a : Ahead) (r : ℕ) (w : Work) → n ≤ 0 → below_step table n a r w ≡ refused a w
below_none table zero a r w h = refl
below_none table (suc n) a r w h = absurd (omega arith)

pub level_opens : (n : ℕ) (p q : Step) (w : Work) → 0 < n → chosen (positive n) p q w ≡ p w
level_opens zero p q w h = absurd (omega arith)
level_opens (suc n) p q w h = refl

pub level_refuses : (n : ℕ) (p q : Step) (w : Work) → n ≤ 0 → chosen (positive n) p q w ≡ q w
level_refuses zero p q w h = refl
level_refuses (suc n) p q w h = absurd (omega arith)

pub deeper_runs : (rows : List (Bor (List Piece))) (n bound : ℕ) (c : Piece) (a : Ahead) (r : ℕ) (all : List Sign) (result : Result ℕ ReadError) (t : Trail) (ns : List ℕ) (w : Work) → c ≡ node.Deeper a r → 0 < n → Runs all result t ns (row_in (rows_of rows) (n - 1) (length rows) r w) → Runs all result t ns (piece_in (rows_of rows) n bound c w)
deeper_runs rows n bound c a r all result t ns w e h m =
    runs_same all result t ns _ _
    (ap (λ x. piece_in (rows_of rows) n bound x w) e ∙ (below_is (rows_of rows) n a r w h ∙ ap (λ k. row_in (rows_of rows) (n - 1) k r w) (length-map rows (λ b. b.now))))
    m

-- a fault that is passed on
pub passed_on : (all : List Sign) (r : Result ℕ ReadError) (e : ReadError) (t : Trail) (ns : List ℕ) (q : Result Work Fault) → IsErrAnd r (λ x. x ≡ e) → Stops all e q → Runs all r t ns q
passed_on all (Ok x) e t ns q i h = absurd i
passed_on all (Err x) e t ns q i h = subst (λ y. Stops all y q) (sym i) h

pub ruleset walks = (refused_stops, fails_put, sign_runs, word_runs, note_runs, zero_runs, find_runs, number_runs, last_leaves, name_leaves, pair_leaves, name_pushed, goes_twice, bounds_leave)
