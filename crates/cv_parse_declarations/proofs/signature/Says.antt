-- The rows of declarations read what the forms of the grammar read.
use Rattle.std.proofs.Common.{◌≡◌, ℕ, zero, suc, ◌<◌, Bool, true, false, ◌||◌, List, [], ◌∷◌, ◌++◌, length, refl, ap, sym, ◌∙◌, lit<, append_assoc}
use Rattle.cv_syntax_trees.specs.Tree.{Tree, Empty, Node, lone, chain, names}
use Rattle.cv_syntax_trees.specs.declared.head.Head.TheVariants as head
use Rattle.cv_syntax.specs.Postorder.{postorder}
use Rattle.cv_syntax.specs.declared.make.Make.TheVariants.{Nothing, Over}
use Rattle.cv_parse_notation.specs.declared.sign.Sign.{Sign}
use Rattle.cv_parse_notation.specs.declared.sign.Mark.{Mark}
use Rattle.cv_parse_notation.specs.declared.sign.Mark.TheVariants as mark
use Rattle.cv_parse_notation.specs.Spells.{next_is, starts}
use Rattle.cv_parse_notation.specs.Form.{sign, word, either, made, ◌&◌, ◌▸◌, ◌◂◌}
use Rattle.cv_parse_notation.specs.Reads.{Reader, pick}
use Rattle.cv_parse_grammar.specs.declared.role.TypeOption.{TypeOption}
use Rattle.cv_parse_grammar.specs.declared.role.TypeOption.TheVariants.{Fixed, Large, Bounded}
use Rattle.cv_parse_grammar.specs.declared.role.Asked.TheVariants.{AParam, AChannel, AFunction, AnEvent, AProbability, AType}
use Rattle.cv_parse_grammar.specs.declared.role.Region.{Region}
use Rattle.cv_parse_grammar.specs.declared.role.Region.TheVariants.{InEquation, InQuery}
use Rattle.cv_parse_grammar.specs.declared.role.Role.{Role}
use Rattle.cv_parse_grammar.specs.declared.role.Role.TheVariants.{Declares, Asks, BindsLocal, Enters, Leaves, Unchecked}
use Rattle.cv_parse_grammar.specs.Phrases.{Phrase, RightSide, or_else, row, square, listed, type_name, vars, inside}
use Rattle.cv_parse_grammar.specs.Rules.{heads}
use Rattle.cv_parse_grammar.specs.Terms.{equality, term}
use Rattle.cv_parse_grammar.specs.Declarations.{alternative, bracketed_right_side, ids, type_option, type_options, type_list, is_there, data_option, forall_vars, happens, event, correspondence, right_item, right_side, secrecy}
use Rattle.cv_parse_terms.specs.declared.piece.Ahead.TheVariants as ahead
use Rattle.cv_parse_terms.specs.declared.piece.Naming.{Naming}
use Rattle.cv_parse_terms.specs.declared.piece.Naming.TheVariants as naming
use Rattle.cv_parse_terms.specs.declared.piece.Closing.TheVariants as closing
use Rattle.cv_parse_terms.specs.declared.piece.Piece.{Piece}
use Rattle.cv_parse_terms.specs.declared.piece.Piece.TheVariants as piece
use Rattle.cv_parse_terms.specs.Gives.{read_in}
use Rattle.cv_parse_terms.specs.Tables.{Parts, closed, closer, head_of, named, part, put, repeated, waits}
use Rattle.cv_parse_terms.specs.TermRows.{row_of}
use Rattle.cv_parse_terms.proofs.Saying.{IsBelow, Says, alternatives_says, between, both_says, chain_closes, deeper_says, each, either_says, grows, head_behind, level_says, list_says, made_says, may_says, name_waits, names_close, next_or, none_below, note_says, part_behind, row_says, same_says, sign_before, sign_behind, sign_says, some_says, value_behind, word_says}
use Rattle.cv_parse_terms.proofs.TermSays.{deep, one_below, says_arguments, says_equality, says_listed, says_local_vars, says_term, says_type, three, with_makes}

-- a choice among a choice and another form

one_of : {A : Type 0} (b c : Bool) (p q r pq qr : Reader Role A) (ts : List Sign) → pq ts ≡ pick b p q ts → qr ts ≡ pick c q r ts → pick (b || c) pq r ts ≡ pick b p qr ts
one_of true c p q r pq qr ts h k = h
one_of false true p q r pq qr ts h k = h ∙ sym k
one_of false false p q r pq qr ts h k = sym k

choice_says : {A : Type 0} {n b : ℕ} {f g h : Phrase A} {e : A → Parts → Parts} {ps : List Piece} → Says n b ps (either f (either g h)) e → Says n b ps (either (either f g) h) e
choice_says {n = n} {f = f} {g = g} {h = h} {e = e} s = record {
  law = λ w.
      s.law w
      ∙ ap (put e w)
      (sym (ap (λ d. pick d (read_in n (either f g)) (read_in n h) w.rest) (next_or (starts heads f) (starts heads g) w.rest)
      ∙ one_of (next_is (starts heads f) w.rest) (next_is (starts heads g) w.rest) (read_in n f) (read_in n g) (read_in n h) (read_in n (either f g)) (read_in n (either g h)) w.rest refl refl));
}

-- a phrase with names of its own
pub inside_says : {A : Type 0} {n b : ℕ} {f : Phrase A} {e : A → Parts → Parts} (r : Region) (ps : List Piece) → Says n b ps f e → Says n b (piece.Note (Enters r) ∷ (ps ++ piece.Note Leaves ∷ [])) (inside r f) e
inside_says {n = n} {b = b} {e = e} r ps s =
    made_says (λ (m, (a, k)). a) e
    (both_says (piece.Note (Enters r) ∷ []) (ps ++ piece.Note Leaves ∷ []) (note_says n b (Enters r)) (both_says ps (piece.Note Leaves ∷ []) s (note_says n b Leaves)))

-- lists whose parts and names stay apart

apart : (n : ℕ) (q : Parts) → repeated n (closer closing.Apart) q ≡ q
apart zero q = refl
apart (suc n) q = apart n q

apart_closes : {A : Type 0} (e : A → Parts → Parts) (l : List A) (q : Parts) → closed closing.Apart (length l) (each e l q) ≡ each e l q
apart_closes e l q = apart (length l) (each e l q)

-- names of one class

says_name : (n b : ℕ) (r : Role) → Says n b (piece.Word r ∷ (piece.Part Nothing ∷ [])) (word r) name_waits
says_name n b r = part_behind Nothing (piece.Word r ∷ []) (word_says n b r)

says_ids : (n b i : ℕ) (r : Role) → i < b → Says n i (row_of i) (word r) name_waits → Says n b (piece.List closing.Apart mark.Comma i ∷ []) (ids r) (each name_waits)
says_ids n b i r h s = some_says b closing.Apart mark.Comma i (each name_waits) h (apart_closes name_waits) s

pub says_parameters : (n : ℕ) → Says n 157 (row_of 157) (mark.Param ▸ ids (Declares AParam) ◂ mark.Dot) (each name_waits)
says_parameters n = between mark.Param mark.Dot (piece.List closing.Apart mark.Comma 156 ∷ []) (says_ids n 157 156 (Declares AParam) (lit< tt) (says_name n 156 (Declares AParam)))

pub says_channels : (n : ℕ) → Says n 159 (row_of 159) (mark.Channel ▸ ids (Declares AChannel) ◂ mark.Dot) (each name_waits)
says_channels n = between mark.Channel mark.Dot (piece.List closing.Apart mark.Comma 158 ∷ []) (says_ids n 159 158 (Declares AChannel) (lit< tt) (says_name n 158 (Declares AChannel)))

pub says_probability : (n : ℕ) → Says n 160 (row_of 160) (mark.Proba ▸ word (Declares AProbability) ◂ mark.Dot) name_waits
says_probability n = between mark.Proba mark.Dot (piece.Word (Declares AProbability) ∷ (piece.Part Nothing ∷ [])) (says_name n 160 (Declares AProbability))

pub says_constants : (n : ℕ) → Says n 170 (row_of 170) (mark.ConstWord ▸ (ids (Declares AFunction) & (mark.Colon ▸ type_name)) ◂ mark.Dot) (λ c q. waits c.1 (each name_waits c.0 q))
says_constants n =
    let list = piece.List closing.Apart mark.Comma 169 ∷ [] in
    let sort = piece.Sign mark.Colon ∷ (piece.Row 58 ∷ []) in
    between mark.ConstWord mark.Dot (list ++ sort)
    (both_says list sort (says_ids n 170 169 (Declares AFunction) (lit< tt) (says_name n 169 (Declares AFunction))) (sign_before mark.Colon (piece.Row 58 ∷ []) (row_says 170 58 (lit< tt) (says_type n))))

-- types, with numbers for their options

abbrev pub number_of : TypeOption → ℕ
number_of Fixed = 0
number_of Large = 1
number_of Bounded = 2

abbrev pub option_waits : TypeOption → Parts → Parts
option_waits o = waits (number_of o)

says_one_option : (n b : ℕ) (m : Mark) (o : TypeOption) → Says n b (piece.Sign m ∷ (piece.Value (number_of o) ∷ [])) (made (λ _. o) (sign m)) option_waits
says_one_option n b m o = made_says (λ _. o) option_waits (value_behind (number_of o) (piece.Sign m ∷ []) (sign_says n b m))

says_option : (n : ℕ) → Says n 165 (row_of 165) type_option option_waits
says_option n =
    either_says 165 (ahead.Mark mark.Fixed) 161 164 (lit< tt) (lit< tt) (λ k. refl) (says_one_option n 161 mark.Fixed Fixed)
    (either_says 164 (ahead.Mark mark.Large) 162 163 (lit< tt) (lit< tt) (λ k. refl) (says_one_option n 162 mark.Large Large) (says_one_option n 163 mark.Bounded Bounded))

says_some_options : (n : ℕ) → Says n 167 (row_of 167) (square (row mark.Comma type_option)) (each option_waits)
says_some_options n =
    level_says 167 (ahead.Mark mark.OpenSquare) 166 (lit< tt) (λ k. refl)
    (between mark.OpenSquare mark.CloseSquare (piece.List closing.Apart mark.Comma 165 ∷ [])
    (some_says 166 closing.Apart mark.Comma 165 (each option_waits) (lit< tt) (apart_closes option_waits) (says_option n)))

says_options : (n : ℕ) → Says n 168 (piece.Choice (ahead.Mark mark.OpenSquare) 167 0 ∷ []) type_options (each option_waits)
says_options n =
    made_says (or_else []) (each option_waits)
    (may_says 168 (ahead.Mark mark.OpenSquare) 167 0 false (λ o. each option_waits (or_else [] o)) (lit< tt) (lit< tt) (λ k. refl) (says_some_options n) (λ w. refl))

pub says_type_decl : (n : ℕ) → Says n 168 (row_of 168) (mark.TypeWord ▸ (word (Declares AType) & type_options) ◂ mark.Dot) (λ c q. part Nothing (each option_waits c.1 (waits c.0 q)))
says_type_decl n =
    let options = piece.Choice (ahead.Mark mark.OpenSquare) 167 0 ∷ [] in
    let front = piece.Word (Declares AType) ∷ options in
    between mark.TypeWord mark.Dot (front ++ piece.Part Nothing ∷ [])
    (part_behind Nothing front (both_says (piece.Word (Declares AType) ∷ []) options (word_says n 168 (Declares AType)) (says_options n)))

-- functions and events

says_types : (n : ℕ) → Says n 155 (row_of 155) type_list grows
says_types n =
    level_says 155 (ahead.Mark mark.Open) 154 (lit< tt) (λ k. refl)
    (between mark.Open mark.Close (piece.List closing.Names mark.Comma 153 ∷ [])
    (list_says 154 closing.Names mark.Comma 153 names (lit< tt) names_close (part_behind Nothing (piece.Row 58 ∷ []) (row_says 153 58 (lit< tt) (says_type n)))))

abbrev pub data_number : Bool → ℕ
data_number true = 1
data_number false = 0

abbrev pub data_waits : Bool → Parts → Parts
data_waits d = waits (data_number d)

says_data : (n : ℕ) → Says n 174 (row_of 174) (square (either (sign mark.Data) (sign mark.Compos))) (λ u. data_waits true)
says_data n =
    value_behind 1 (piece.Level (ahead.Mark mark.OpenSquare) 173 ∷ [])
    (level_says 174 (ahead.Mark mark.OpenSquare) 173 (lit< tt) (λ k. refl)
    (between mark.OpenSquare mark.CloseSquare (piece.Choice (ahead.Mark mark.Data) 171 172 ∷ [])
    (either_says 173 (ahead.Mark mark.Data) 171 172 (lit< tt) (lit< tt) (λ k. refl) (sign_says n 171 mark.Data) (sign_says n 172 mark.Compos))))

says_data_option : (n : ℕ) → Says n 176 (piece.Choice (ahead.Mark mark.OpenSquare) 174 175 ∷ []) data_option data_waits
says_data_option n =
    made_says is_there data_waits
    (may_says 176 (ahead.Mark mark.OpenSquare) 174 175 false (λ o. data_waits (is_there o)) (lit< tt) (lit< tt) (λ k. refl) (says_data n) (λ w. refl))

pub says_function : (n : ℕ) → Says n 176 (row_of 176) (mark.Fun ▸ (word (Declares AFunction) & (type_list & (mark.Colon ▸ (type_name & data_option)))) ◂ mark.Dot) (λ c q. data_waits c.1.1.1 (waits c.1.1.0 (grows c.1.0 (waits c.0 q))))
says_function n =
    let option = piece.Choice (ahead.Mark mark.OpenSquare) 174 175 ∷ [] in
    let result = piece.Row 58 ∷ option in
    let arguments = piece.Row 155 ∷ (piece.Sign mark.Colon ∷ result) in
    between mark.Fun mark.Dot (piece.Word (Declares AFunction) ∷ arguments)
    (both_says (piece.Word (Declares AFunction) ∷ []) arguments (word_says n 176 (Declares AFunction))
    (both_says (piece.Row 155 ∷ []) (piece.Sign mark.Colon ∷ result) (row_says 176 155 (lit< tt) (says_types n))
    (sign_before mark.Colon result (both_says (piece.Row 58 ∷ []) option (row_says 176 58 (lit< tt) (says_type n)) (says_data_option n)))))

pub says_event_decl : (n : ℕ) → Says n 177 (row_of 177) (mark.EventWord ▸ (word (Declares AnEvent) & listed type_list) ◂ mark.Dot) (λ c q. grows c.1 (waits c.0 q))
says_event_decl n =
    let arguments = piece.Choice (ahead.Mark mark.Open) 155 54 ∷ [] in
    between mark.EventWord mark.Dot (piece.Word (Declares AnEvent) ∷ arguments)
    (both_says (piece.Word (Declares AnEvent) ∷ []) arguments (word_says n 177 (Declares AnEvent)) (says_listed 177 (ahead.Mark mark.Open) 155 (lit< tt) (lit< tt) (λ k. refl) (says_types n)))

-- equations

says_some_vars : (n : ℕ) → Says n 150 (row_of 150) (vars BindsLocal ◂ mark.Semicolon) grows
says_some_vars n = sign_behind mark.Semicolon (piece.Row 147 ∷ []) (row_says 150 147 (lit< tt) (says_local_vars n))

pub says_some_forall : (n : ℕ) → Says n 151 (row_of 151) (mark.Forall ▸ (vars BindsLocal ◂ mark.Semicolon)) grows
says_some_forall n = sign_before mark.Forall (piece.Row 150 ∷ []) (row_says 151 150 (lit< tt) (says_some_vars n))

says_forall : (n : ℕ) → Says n 152 (piece.Choice (ahead.Mark mark.Forall) 151 54 ∷ []) forall_vars grows
says_forall n = says_listed 152 (ahead.Mark mark.Forall) 151 (lit< tt) (lit< tt) (λ k. refl) (says_some_forall n)

closes_equation : (c : Tree × Tree) (q : Parts) → part (Over head.Forall) (grows c.1 (grows c.0 q)) ≡ grows (Node head.Forall c.0 c.1) q
unfolding postorder
closes_equation c q = with_makes q _ _ (simp append_assoc refl)

pub says_equation : (n : ℕ) → Says n 152 (row_of 152) (mark.EquationWord ▸ inside InEquation (forall_vars & term) ◂ mark.Dot) (λ c. grows (Node head.Forall c.0 c.1))
says_equation n =
    let front = piece.Choice (ahead.Mark mark.Forall) 151 54 ∷ [] in
    let both = front ++ piece.Row 37 ∷ [] in
    let all = both ++ piece.Part (Over head.Forall) ∷ [] in
    between mark.EquationWord mark.Dot (piece.Note (Enters InEquation) ∷ (all ++ piece.Note Leaves ∷ []))
    (inside_says InEquation all
    (same_says (λ c. grows (Node head.Forall c.0 c.1)) closes_equation
    (part_behind (Over head.Forall) both (both_says front (piece.Row 37 ∷ []) (says_forall n) (row_says 152 37 (lit< tt) (says_term n (deep n)))))))

-- queries

closes_name : (h : Naming) (x : ℕ) (q : Parts) → named h (part Nothing (part Nothing (waits x q))) ≡ grows (lone (head_of h x)) q
unfolding postorder
closes_name h x q = with_makes q _ _ (three q.makes (Nothing ∷ []) Nothing (Over (head_of h x)))

closes_first : (h : Naming) (x : ℕ) (t : Tree) (q : Parts) → named h (part Nothing (grows t (waits x q))) ≡ grows (Node (head_of h x) t Empty) q
unfolding postorder
closes_first h x t q = with_makes q _ _ (three q.makes (postorder t) Nothing (Over (head_of h x)))

closes_correspondence : (l t a : Tree) (q : Parts) → part (Over head.Query) (part (Over head.Cons) (grows a (grows t (grows l q)))) ≡ grows (Node head.Query l (Node head.Cons t a)) q
unfolding postorder
closes_correspondence l t a q = with_makes q _ _ (simp append_assoc refl)

says_secret : (n b : ℕ) (m : Mark) (h : Naming) → Says n b (piece.Sign m ∷ (piece.Word Unchecked ∷ (piece.Part Nothing ∷ (piece.Part Nothing ∷ (piece.Named h ∷ []))))) (made (λ x. lone (head_of h x)) (m ▸ word Unchecked)) grows
says_secret n b m h =
    let one = piece.Sign m ∷ (piece.Word Unchecked ∷ []) in
    made_says (λ x. lone (head_of h x)) grows
    (same_says (λ x. grows (lone (head_of h x))) (closes_name h)
    (head_behind h (one ++ (piece.Part Nothing ∷ (piece.Part Nothing ∷ [])))
    (part_behind Nothing (one ++ piece.Part Nothing ∷ []) (part_behind Nothing one (sign_before m (piece.Word Unchecked ∷ []) (word_says n b Unchecked))))))

says_happens : (n : ℕ) → Says n 180 (row_of 180) happens (λ c q. part Nothing (grows c.1 (waits c.0 q)))
says_happens n =
    let arguments = piece.Choice (ahead.Mark mark.Open) 4 54 ∷ [] in
    part_behind Nothing (piece.Sign mark.EventWord ∷ (piece.Word (Asks AnEvent) ∷ arguments))
    (sign_before mark.EventWord (piece.Word (Asks AnEvent) ∷ arguments)
    (both_says (piece.Word (Asks AnEvent) ∷ []) arguments (word_says n 180 (Asks AnEvent)) (says_listed 180 (ahead.Mark mark.Open) 4 (lit< tt) (lit< tt) (λ k. refl) (says_arguments n (deep n)))))

says_own : (n : ℕ) → Says n 181 (row_of 181) (made (λ (e, l). Node (head.OccursOnce e) l Empty) (mark.Inj ▸ happens)) grows
says_own n =
    made_says (λ (e, l). Node (head.OccursOnce e) l Empty) grows
    (same_says (λ c. grows (Node (head.OccursOnce c.0) c.1 Empty)) (λ c q. closes_first naming.OccursOnce c.0 c.1 q)
    (head_behind naming.OccursOnce (piece.Sign mark.Inj ∷ (piece.Row 180 ∷ [])) (sign_before mark.Inj (piece.Row 180 ∷ []) (row_says 181 180 (lit< tt) (says_happens n)))))

says_shared : (n : ℕ) → Says n 182 (row_of 182) (made (λ (e, l). Node (head.Occurs e) l Empty) happens) grows
says_shared n =
    made_says (λ (e, l). Node (head.Occurs e) l Empty) grows
    (same_says (λ c. grows (Node (head.Occurs c.0) c.1 Empty)) (λ c q. closes_first naming.Occurs c.0 c.1 q) (head_behind naming.Occurs (piece.Row 180 ∷ []) (row_says 182 180 (lit< tt) (says_happens n))))

says_event : (n : ℕ) → Says n 183 (row_of 183) event grows
says_event n = either_says 183 (ahead.Mark mark.Inj) 181 182 (lit< tt) (lit< tt) (λ k. refl) (says_own n) (says_shared n)

says_atom : (n : ℕ) → Says n 185 (row_of 185) (either event equality) grows
says_atom n =
    choice_says
    (either_says 185 (ahead.Mark mark.Inj) 181 184 (lit< tt) (lit< tt) (λ k. refl) (says_own n)
    (either_says 184 (ahead.Mark mark.EventWord) 182 31 (lit< tt) (lit< tt) (λ k. refl) (says_shared n) (says_equality n (deep n))))

-- right sides, by what reads one in parentheses one level down

abbrev IsRightSideBelow : ℕ → Type 0
IsRightSideBelow n = IsBelow n (ahead.Mark mark.OpenAtoms) 216 RightSide grows

says_item : (n : ℕ) → IsRightSideBelow n → Says n 187 (row_of 187) right_item grows
says_item n d = either_says 187 (ahead.Mark mark.OpenAtoms) 186 185 (lit< tt) (lit< tt) (λ k. refl) (deeper_says 186 (ahead.Mark mark.OpenAtoms) 216 d) (says_atom n)

says_alternative : (n : ℕ) → IsRightSideBelow n → Says n 188 (row_of 188) alternative grows
says_alternative n d = list_says 188 closing.Trees mark.Both 187 chain (lit< tt) chain_closes (says_item n d)

says_alternatives : (n : ℕ) → IsRightSideBelow n → Says n 189 (row_of 189) right_side grows
says_alternatives n d = alternatives_says 189 mark.Either 188 (lit< tt) (says_alternative n d)

says_in_parentheses : (n : ℕ) → IsRightSideBelow n → Says n 216 (row_of 216) bracketed_right_side grows
says_in_parentheses n d =
    level_says 216 (ahead.Mark mark.OpenAtoms) 215 (lit< tt) (λ k. refl)
    (between mark.OpenAtoms mark.Close (piece.Row 189 ∷ []) (row_says 215 189 (lit< tt) (says_alternatives n d)))

right_side_below : (n : ℕ) → IsRightSideBelow n
right_side_below zero = none_below (ahead.Mark mark.OpenAtoms) 216 RightSide grows (λ k. refl)
right_side_below (suc n) = one_below n (ahead.Mark mark.OpenAtoms) 216 RightSide (lit< tt) (says_in_parentheses n (right_side_below n))

says_right_side : (n : ℕ) → Says n 189 (row_of 189) right_side grows
says_right_side n = says_alternatives n (right_side_below n)

says_correspondence : (n : ℕ) → Says n 211 (row_of 211) correspondence grows
says_correspondence n =
    let binders = piece.Choice ahead.Word 150 54 ∷ [] in
    let right = piece.Row 189 ∷ [] in
    let rest = piece.Row 183 ∷ (piece.Sign mark.Implies ∷ right) in
    made_says (λ (l, (e, r)). Node head.Query l (Node head.Cons e r)) grows
    (same_says (λ c. grows (Node head.Query c.0 (Node head.Cons c.1.0 c.1.1))) (λ c q. closes_correspondence c.0 c.1.0 c.1.1 q)
    (part_behind (Over head.Query) (binders ++ (rest ++ piece.Part (Over head.Cons) ∷ []))
    (part_behind (Over head.Cons) (binders ++ rest)
    (both_says binders rest (says_listed 211 ahead.Word 150 (lit< tt) (lit< tt) (λ k. refl) (says_some_vars n))
    (both_says (piece.Row 183 ∷ []) (piece.Sign mark.Implies ∷ right) (row_says 211 183 (lit< tt) (says_event n))
    (sign_before mark.Implies right (row_says 211 189 (lit< tt) (says_right_side n))))))))

says_asked : (n : ℕ) → Says n 213 (row_of 213) (either secrecy correspondence) grows
says_asked n =
    choice_says
    (either_says 213 (ahead.Mark mark.Secret) 178 212 (lit< tt) (lit< tt) (λ k. refl) (says_secret n 178 mark.Secret naming.Secret)
    (either_says 212 (ahead.Mark mark.SecretOnce) 179 211 (lit< tt) (lit< tt) (λ k. refl) (says_secret n 179 mark.SecretOnce naming.SecretOnce) (says_correspondence n)))

pub says_query : (n : ℕ) → Says n 214 (row_of 214) (mark.QueryWord ▸ inside InQuery (either secrecy correspondence) ◂ mark.Dot) grows
says_query n =
    between mark.QueryWord mark.Dot (piece.Note (Enters InQuery) ∷ (piece.Row 213 ∷ (piece.Note Leaves ∷ [])))
    (inside_says InQuery (piece.Row 213 ∷ []) (row_says 214 213 (lit< tt) (says_asked n)))
