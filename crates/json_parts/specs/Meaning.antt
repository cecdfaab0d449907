-- The data that a JSON value over borrowed text stands for: numbers have values, and an object has each key once, in order.
use Rattle.std.specs.Prelude.{ℕ, ◌^◌, ◌&&◌, List, Bool, true, Option, is_some, unwrap_or, option_and_then}
use Rattle.std.specs.declared.alloc.Global.{Global}
use Rattle.json.specs.Lex.{tokens}
use Rattle.json.specs.Json as json
use Rattle.json.specs.Value.{value_view}
use Rattle.json.specs.declared.value.Value.{Value}
use Rattle.serde_json.specs.Data.{Num, unsigned, Data, null, boolean, number, string, array, object, Items, no_items, item, Members, no_members, put}
use Rattle.serde_json.specs.Read.{number_of, max_depth}

-- the number that a text writes; one beyond all floats stands as a whole number beyond 64 bits
abbrev pub number_meant : List ℕ → Num
number_meant s = unwrap_or (number_of s) (unsigned (2 ^ 64))

-- The members go in one after another, so the last value of a key stays.
abbrev mutual
  pub data_of : json.Json → Data
  data_of json.null = null
  data_of (json.boolean b) = boolean b
  data_of (json.number s) = number (number_meant s)
  data_of (json.string s) = string s
  data_of (json.array js) = array (items_data js)
  data_of (json.object ms) = object (put_all ms no_members)

  pub items_data : json.Items → Items
  items_data json.no_items = no_items
  items_data (json.item j js) = item (data_of j) (items_data js)

  pub put_all : json.Members → Members → Members
  put_all json.no_members found = found
  put_all (json.member k j ms) found = put_all ms (put k (data_of j) found)

abbrev pub view : Value Global → Data
view v = data_of (value_view v)

-- whether no number is beyond all floats
abbrev mutual
  pub has_readings : json.Json → Bool
  has_readings json.null = true
  has_readings (json.boolean b) = true
  has_readings (json.number s) = is_some (number_of s)
  has_readings (json.string s) = true
  has_readings (json.array js) = items_have_readings js
  has_readings (json.object ms) = members_have_readings ms

  pub items_have_readings : json.Items → Bool
  items_have_readings json.no_items = true
  items_have_readings (json.item j js) = has_readings j && items_have_readings js

  pub members_have_readings : json.Members → Bool
  members_have_readings json.no_members = true
  members_have_readings (json.member k j ms) = has_readings j && members_have_readings ms

-- the tree that a text is
abbrev pub tree_of : List ℕ → Option json.Json
tree_of text = option_and_then (λ p. json.if_last p.0 p.1) (json.value max_depth (tokens text))
