-- The columns that an answer lists, whatever they are: an answer with data (C4 01, the invoke octet, 00) to a GET of the capture
-- objects of class Profile generic (7) of IEC 62056-6-2 (Blue Book 4.3.6). Its data is an array (01) of structures of four (02 04):
-- a class (12, two octets), a logical name (09 06, six octets), an attribute (0F, one octet) and a data index (12, two octets),
-- eighteen octets each. Lengths take one octet, as in the canonical spelling.
use Rattle.std.specs.Prelude.{ℕ, ◌+◌, ◌*◌, ◌==◌, ◌&&◌, Bool, nat_lt, if◌then◌else◌, List, [], ◌∷◌, length, get_or, Option, None, Some}
use Rattle.dlms_headend.specs.declared.listed.ListedColumn.{ListedColumn}
use Rattle.dlms_headend.specs.declared.listed.ColumnList.{ColumnList}

-- the number of columns that it lists; none if it is no such answer
abbrev pub is_listing : List ℕ → Bool
is_listing answer =
    (get_or answer 0 0 == 0xC4) && (get_or answer 1 0 == 1) && (get_or answer 3 0 == 0)
    && (get_or answer 4 0 == 1) && nat_lt
    (get_or answer 5 0) 0x80
    && (length answer == 6 + 18 * get_or answer 5 0)

abbrev pub columns_in : List ℕ → Option ℕ
columns_in answer = if is_listing answer then Some (get_or answer 5 0) else None

-- the column that begins at this place; none if something else is there
abbrev pub is_column_at : List ℕ → ℕ → Bool
is_column_at answer place =
    (get_or answer place 0 == 0x02) && (get_or answer (place + 1) 0 == 4) && (get_or answer
    (place + 2) 0 == 0x12) && (get_or answer (place + 5) 0 == 0x09)
    && (get_or answer (place + 6) 0 == 6) && (get_or answer
    (place + 13) 0 == 0x0F) && (get_or answer (place + 15) 0 == 0x12)

abbrev pub two_octets : List ℕ → ℕ → ℕ
two_octets answer place = get_or answer place 0 * 256 + get_or answer (place + 1) 0

abbrev pub six_octets : List ℕ → ℕ → List ℕ
six_octets answer place =
    get_or answer place 0 ∷ get_or answer (place + 1) 0 ∷ get_or answer (place + 2) 0
    ∷ get_or answer (place + 3) 0 ∷ get_or answer (place + 4) 0
    ∷ get_or answer (place + 5) 0 ∷ []

abbrev pub column_at : List ℕ → ℕ → Option ListedColumn
column_at answer place =
    if is_column_at answer place
    then Some (record {
      class = two_octets answer (place + 3);
      name = six_octets answer (place + 7);
      attribute = get_or answer (place + 14) 0;
      index = two_octets answer (place + 16);
    })
    else None

-- the column of this number, counted from 0; none if it lists fewer, or if that one has another form
abbrev pub column_by : Option ℕ → List ℕ → ℕ → Option ListedColumn
column_by None answer number = None
column_by (Some count) answer number = if nat_lt number count
    then column_at answer (6 + 18 * number) else None

abbrev pub column_in : List ℕ → ℕ → Option ListedColumn
column_in answer number = column_by (columns_in answer) answer number

-- what it lists: how many columns, and the first eight of them
abbrev pub columns_listed_in : List ℕ → ColumnList
columns_listed_in answer = record {
  count = columns_in answer;
  columns = column_in answer 0 ∷ column_in answer 1 ∷ column_in answer 2 ∷ column_in answer 3
      ∷ column_in answer 4 ∷ column_in answer 5 ∷ column_in answer 6 ∷ column_in answer 7 ∷ [];
}
