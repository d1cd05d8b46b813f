-- What a piece more does to a page.
use Rattle.std.proofs.Common.{◌≡◌, ℕ, ◌+◌, ◌<◌, ◌≤◌, nat_lt, Bool, true, false, cond, List, [], ◌∷◌, ◌++◌, length, take, Option, Some, None, refl, sym, ap, subst, ◌∙◌, arith}
use Rattle.std.proofs.lemmas.Bool.Decides.{nat_tests}
use Rattle.std.proofs.lemmas.List.{length-append, length-take, take_all, take-append-le, append_cancel_right}
use Rattle.output_editing.specs.Layout.{Piece, Break, Put, fits, spaced, printed, open_line_of, lay}
use Rattle.output_editing.specs.Page.{Page, is_over, HasPrinted}
use Rattle.output_editing.specs.Held.{takes, begun, with_room}
use Rattle.output_editing.proofs.Lays.{closed, lay_parts, lay-break, open_line-break, lay-fits, open_line-fits, lay-begins, open_line-begins, lines_stay, lines_never_fewer}

within_limit : (limit count : ℕ) → nat_lt limit count ≡ false → count ≤ limit
within_limit limit count is = grind (arith, nat_tests)

not_over : (limit count : ℕ) → count ≤ limit → nat_lt limit count ≡ false
not_over limit count few = grind (arith, nat_tests)

past_limit : (limit count : ℕ) → nat_lt limit count ≡ true → limit < count
past_limit limit count is = grind (arith, nat_tests)

over : (limit count : ℕ) → limit < count → nat_lt limit count ≡ true
over limit count many = grind (arith, nat_tests)

-- pieces within the limit, by their lines
page_within : (limit : ℕ) (lines : List (List ℕ)) (open_line : Option (List ℕ)) (is_full : Bool) (pieces : List Piece)
    → lay pieces ≡ lines → length lines ≤ limit → open_line_of pieces ≡ open_line → is_full ≡ false
    → HasPrinted (record { limit = limit; lines = lines; open_line = open_line; is_full = is_full }) pieces
page_within limit lines open_line is_full pieces are few open_is full_is =
    let few_too : length (lay pieces) ≤ limit = omega (arith, ap length are) in
    let within : is_over limit pieces ≡ false = not_over limit (length (lay pieces)) few_too in
    let all : lines ≡ take limit (lay pieces) = sym are ∙ sym (take_all limit (lay pieces) few_too) in
    let still : open_line ≡ cond (is_over limit pieces) None (open_line_of pieces) = sym open_is ∙ ap (λ (b : Bool). cond b None (open_line_of pieces)) (sym within) in
    let full : is_full ≡ is_over limit pieces = full_is ∙ sym within in
    λ i. record { limit = limit; lines = all i; open_line = still i; is_full = full i }

-- pieces past the limit, by the lines that it allows
page_past : (limit : ℕ) (lines : List (List ℕ)) (pieces : List Piece) → limit < length (lay pieces) → take limit (lay pieces) ≡ lines
    → HasPrinted (record { limit = limit; lines = lines; open_line = None; is_full = true }) pieces
page_past limit lines pieces many are =
    let past : is_over limit pieces ≡ true = over limit (length (lay pieces)) many in
    let none : None ≡ cond (is_over limit pieces) None (open_line_of pieces) = ap (λ (b : Bool). cond b None (open_line_of pieces)) (sym past) in
    λ i. record { limit = limit; lines = sym are i; open_line = none i; is_full = sym past i }

-- a page on which a line is open is within its limit
open_within : (past : Bool) (open_line : Option (List ℕ)) (line : List ℕ) → Some line ≡ cond past None open_line → (past ≡ false) × (open_line ≡ Some line)
open_within true open_line line is = cc
open_within false open_line line is = (refl, sym is)

none_either : (past : Bool) (open_line : Option (List ℕ)) → open_line ≡ None → None ≡ cond past None open_line
none_either true open_line is = refl
none_either false open_line is = sym is

-- a break closes the open line of a page
pub page-break : (page : Page) (pieces : List Piece) → HasPrinted page pieces → HasPrinted (record page { open_line = None }) (pieces ++ Break ∷ [])
page-break page pieces is =
    let same = sym (lay-break pieces) in
    let lines : page.lines ≡ take page.limit (lay (pieces ++ Break ∷ [])) = ap (λ p. p.lines) is ∙ ap (take page.limit) same in
    let full : page.is_full ≡ is_over page.limit (pieces ++ Break ∷ []) = ap (λ p. p.is_full) is ∙ ap (λ (ls : List (List ℕ)). nat_lt page.limit (length ls)) same in
    let none = none_either (is_over page.limit (pieces ++ Break ∷ [])) (open_line_of (pieces ++ Break ∷ [])) (open_line-break pieces) in
    λ i. record { limit = page.limit; lines = lines i; open_line = none i; is_full = full i }

-- a text that fits on the open line
pub page-fits : (limit : ℕ) (front : List (List ℕ)) (line : List ℕ) (is_full : Bool) (pieces : List Piece) (text : List ℕ) (after : ℕ)
    → HasPrinted (record { limit = limit; lines = front ++ printed (Some line); open_line = Some line; is_full = is_full }) pieces → fits line text ≡ true
    → HasPrinted (record { limit = limit; lines = front ++ printed (Some (spaced (line ++ text) after)); open_line = Some (spaced (line ++ text) after); is_full = is_full }) (pieces ++ Put text after ∷ [])
page-fits limit front line is_full pieces text after is room =
    let parts = open_within (is_over limit pieces) (open_line_of pieces) line (ap (λ p. p.open_line) is) in
    let few : length (lay pieces) ≤ limit = within_limit limit (length (lay pieces)) parts.0 in
    let lines : front ++ printed (Some line) ≡ lay pieces = ap (λ p. p.lines) is ∙ take_all limit (lay pieces) few in
    let front_is : front ≡ closed pieces =
    append_cancel_right front (closed pieces) (printed (Some line)) (lines ∙ lay_parts pieces ∙ ap (λ (o : Option (List ℕ)). closed pieces ++ printed o) parts.1) in
    let last = printed (Some (spaced (line ++ text) after)) in
    let longer : length (front ++ last) ≡ length front + 1 = length-append front last in
    let short : length (front ++ printed (Some line)) ≡ length front + 1 = length-append front (printed (Some line)) in
    page_within limit (front ++ last) (Some (spaced (line ++ text) after)) is_full (pieces ++ Put text after ∷ [])
    (lay-fits pieces line text after parts.1 room ∙ ap (λ (ls : List (List ℕ)). ls ++ last) (sym front_is))
    (omega (arith, longer, short, ap length lines, few))
    (open_line-fits pieces line text after parts.1 room)
    (ap (λ p. p.is_full) is ∙ parts.0)

-- whether a line can begin, by what is open then
line_began : (more : Bool) (limit : ℕ) (lines : List (List ℕ)) (is_full : Bool) (page : Page) (line : List ℕ)
    → record { limit = limit; lines = lines; open_line = Some line; is_full = is_full } ≡ cond more (record page { lines = page.lines ++ [] ∷ []; open_line = Some [] }) (record page { open_line = None; is_full = true })
    → (more ≡ true) × (limit ≡ page.limit) × (lines ≡ page.lines ++ [] ∷ []) × (line ≡ []) × (is_full ≡ page.is_full)
line_began true limit lines is_full page line is =
    let open_is : Some line ≡ Some [] = ap (λ p. p.open_line) is in
    (refl, ap (λ p. p.limit) is, ap (λ p. p.lines) is, cc, ap (λ p. p.is_full) is)
line_began false limit lines is_full page line is =
    let open_is : Some line ≡ None = ap (λ p. p.open_line) is in
    cc

-- a text for which a line begins
pub page-begins : (page : Page) (limit : ℕ) (front : List (List ℕ)) (line : List ℕ) (is_full : Bool) (pieces : List Piece) (text : List ℕ) (after : ℕ)
    → HasPrinted page pieces → takes page.open_line text ≡ false → record { limit = limit; lines = front ++ printed (Some line); open_line = Some line; is_full = is_full } ≡ begun page
    → HasPrinted (record { limit = limit; lines = front ++ printed (Some (spaced (line ++ text) after)); open_line = Some (spaced (line ++ text) after); is_full = is_full }) (pieces ++ Put text after ∷ [])
page-begins page limit front line is_full pieces text after is no_room began =
    let parts = line_began (nat_lt (length page.lines) page.limit) limit (front ++ printed (Some line)) is_full page line began in
    let more : length page.lines < page.limit = past_limit (length page.lines) page.limit parts.0 in
    let kept : length page.lines ≡ length (take page.limit (lay pieces)) = ap (λ p. length p.lines) is in
    let few : length (lay pieces) < page.limit = omega (arith, more, kept, length-take page.limit (lay pieces)) in
    let within : is_over page.limit pieces ≡ false = not_over page.limit (length (lay pieces)) (omega arith) in
    let lines : page.lines ≡ lay pieces = ap (λ p. p.lines) is ∙ take_all page.limit (lay pieces) (omega arith) in
    let open_is : page.open_line ≡ open_line_of pieces = ap (λ p. p.open_line) is ∙ ap (λ (b : Bool). cond b None (open_line_of pieces)) within in
    let no_room_there : takes (open_line_of pieces) text ≡ false = ap (λ (o : Option (List ℕ)). takes o text) (sym open_is) ∙ no_room in
    let front_is : front ≡ lay pieces =
    append_cancel_right front (lay pieces) ([] ∷ []) (ap (λ (l : List ℕ). front ++ printed (Some l)) (sym parts.3) ∙ parts.2 ∙ ap (λ (ls : List (List ℕ)). ls ++ [] ∷ []) lines) in
    let text_is : spaced text after ≡ spaced (line ++ text) after = ap (λ (l : List ℕ). spaced (l ++ text) after) (sym parts.3) in
    let last = printed (Some (spaced (line ++ text) after)) in
    page_within limit (front ++ last) (Some (spaced (line ++ text) after)) is_full (pieces ++ Put text after ∷ [])
    (lay-begins pieces text after no_room_there ∙ ap (λ (l : List ℕ). lay pieces ++ printed (Some l)) text_is ∙ ap (λ (ls : List (List ℕ)). ls ++ last) (sym front_is))
    (omega (arith, length-append front last, ap length front_is, few, parts.1))
    (open_line-begins pieces text after no_room_there ∙ ap (λ (l : List ℕ). Some l) text_is)
    (parts.4 ∙ ap (λ p. p.is_full) is ∙ within)

-- where no line can begin, the page is as it was, and full
line_refused : (more : Bool) (page : Page) → (cond more (record page { lines = page.lines ++ [] ∷ []; open_line = Some [] }) (record page { open_line = None; is_full = true })).open_line ≡ None
    → (more ≡ false) × (record page { open_line = None; is_full = true } ≡ cond more (record page { lines = page.lines ++ [] ∷ []; open_line = Some [] }) (record page { open_line = None; is_full = true }))
line_refused true page is = cc
line_refused false page is = (refl, refl)

-- the limit allows the same lines, whatever comes behind as many
refused : (past : Bool) (limit : ℕ) (pieces : List Piece) (text : List ℕ) (after : ℕ)
    → is_over limit pieces ≡ past → limit ≤ length (lay pieces) → takes (cond past None (open_line_of pieces)) text ≡ false
    → (limit < length (lay (pieces ++ Put text after ∷ []))) × (take limit (lay (pieces ++ Put text after ∷ [])) ≡ take limit (lay pieces))
refused true limit pieces text after is many no_room =
    let past : limit < length (lay pieces) = past_limit limit (length (lay pieces)) is in
    (omega (arith, past, lines_never_fewer pieces (Put text after ∷ [])), lines_stay pieces (Put text after ∷ []) limit (omega arith))
refused false limit pieces text after is many no_room =
    let few : length (lay pieces) ≤ limit = within_limit limit (length (lay pieces)) is in
    let last = printed (Some (spaced text after)) in
    let lines : lay (pieces ++ Put text after ∷ []) ≡ lay pieces ++ last = lay-begins pieces text after no_room in
    (omega (arith, ap length lines, length-append (lay pieces) last), ap (take limit) lines ∙ take-append-le limit (lay pieces) last many)

-- a text for which the limit allows no line
pub page-refused : (page : Page) (pieces : List Piece) (text : List ℕ) (after : ℕ)
    → HasPrinted page pieces → takes page.open_line text ≡ false → (begun page).open_line ≡ None → HasPrinted (begun page) (pieces ++ Put text after ∷ [])
page-refused page pieces text after is no_room none =
    let parts = line_refused (nat_lt (length page.lines) page.limit) page none in
    let full : page.limit ≤ length page.lines = within_limit (length page.lines) page.limit parts.0 in
    let kept : length page.lines ≡ length (take page.limit (lay pieces)) = ap (λ p. length p.lines) is in
    let many : page.limit ≤ length (lay pieces) = omega (arith, full, kept, length-take page.limit (lay pieces)) in
    let no_room_there = ap (λ p. takes p.open_line text) (sym is) ∙ no_room in
    let there = refused (is_over page.limit pieces) page.limit pieces text after refl many no_room_there in
    let Printed : Page → Type 0 = λ p. HasPrinted p (pieces ++ Put text after ∷ []) in
    subst Printed parts.1 (page_past page.limit page.lines (pieces ++ Put text after ∷ []) there.0 (there.1 ∙ sym (ap (λ p. p.lines) is)))

fits_within : (line text : List ℕ) → fits line text ≡ true → take 132 (line ++ text) ≡ line ++ text
fits_within line text room =
    let few : length line + length text ≤ 132 = grind (arith, nat_tests) in
    take_all 132 (line ++ text) (omega (arith, length-append line text, few))

-- on the open line of a page that is ready, by whether it was there before
on_open : (took : Bool) (page : Page) (limit : ℕ) (front : List (List ℕ)) (line : List ℕ) (is_full : Bool) (pieces : List Piece) (text : List ℕ) (after : ℕ)
    → HasPrinted page pieces → length text ≤ 132 → takes page.open_line text ≡ took
    → record { limit = limit; lines = front ++ printed (Some line); open_line = Some line; is_full = is_full } ≡ cond took page (begun page)
    → (take 132 (line ++ text) ≡ line ++ text)
    × HasPrinted (record { limit = limit; lines = front ++ printed (Some (spaced (line ++ text) after)); open_line = Some (spaced (line ++ text) after); is_full = is_full }) (pieces ++ Put text after ∷ [])
on_open true page limit front line is_full pieces text after is most took_is ready =
    let room : fits line text ≡ true = ap (λ p. takes p.open_line text) ready ∙ took_is in
    let Printed : Page → Type 0 = λ p. HasPrinted p pieces in
    (fits_within line text room, page-fits limit front line is_full pieces text after (subst Printed (sym ready) is) room)
on_open false page limit front line is_full pieces text after is most took_is ready =
    let parts = line_began (nat_lt (length page.lines) page.limit) limit (front ++ printed (Some line)) is_full page line ready in (
      ap (λ (l : List ℕ). take 132 (l ++ text)) parts.3 ∙ take_all 132 text most ∙ ap (λ (l : List ℕ). l ++ text) (sym parts.3),
      page-begins page limit front line is_full pieces text after is took_is ready,
    )

-- a text goes on the open line of a page that is ready for it
pub page-put : (page : Page) (limit : ℕ) (front : List (List ℕ)) (line new : List ℕ) (is_full : Bool) (pieces : List Piece) (text : List ℕ) (after : ℕ)
    → HasPrinted page pieces → length text ≤ 132
    → record { limit = limit; lines = front ++ printed (Some line); open_line = Some line; is_full = is_full } ≡ with_room page text
    → new ≡ spaced (take 132 (line ++ text)) after
    → HasPrinted (record { limit = limit; lines = front ++ printed (Some new); open_line = Some new; is_full = is_full }) (pieces ++ Put text after ∷ [])
page-put page limit front line new is_full pieces text after is most ready new_is =
    let there = on_open (takes page.open_line text) page limit front line is_full pieces text after is most refl ready in
    let Printed : List ℕ → Type 0 =
    λ l. HasPrinted (record { limit = limit; lines = front ++ printed (Some l); open_line = Some l; is_full = is_full }) (pieces ++ Put text after ∷ []) in
    subst Printed (sym (new_is ∙ ap (λ (l : List ℕ). spaced l after) there.0)) there.1

none_open : (took : Bool) (page : Page) (pieces : List Piece) (text : List ℕ) (after : ℕ)
    → HasPrinted page pieces → takes page.open_line text ≡ took → (cond took page (begun page)).open_line ≡ None → HasPrinted (cond took page (begun page)) (pieces ++ Put text after ∷ [])
none_open true page pieces text after is took_is none =
    let no_room : takes page.open_line text ≡ false = ap (λ (o : Option (List ℕ)). takes o text) none in
    cc
none_open false page pieces text after is took_is none = page-refused page pieces text after is took_is none

-- and nowhere where no line is open even then
pub page-put_nowhere : (page : Page) (pieces : List Piece) (text : List ℕ) (after : ℕ)
    → HasPrinted page pieces → (with_room page text).open_line ≡ None → HasPrinted (with_room page text) (pieces ++ Put text after ∷ [])
page-put_nowhere page pieces text after is none = none_open (takes page.open_line text) page pieces text after is refl none
