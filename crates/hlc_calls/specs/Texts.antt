-- The names and the texts of answers: for a number that is no answer there is none.
use Rattle.std.specs.Prelude.{ℕ, List, [], ◌==◌, if◌then◌else◌, codes}

-- its name in the header, and what it says
abbrev pub answer_words : ℕ → List ℕ × List ℕ
answer_words answer =
    if answer == 0 then (codes "HLC_OK", codes "the call was made")
    else if answer == 1 then (codes "HLC_NO_NODE", codes "no node has this number")
    else if answer == 2 then (codes "HLC_READING_TOO_LARGE", codes "the clock reading is 2^48 or more")
    else if answer == 3 then (codes "HLC_COUNTER_FULL", codes "the counter of the greatest earlier stamp is full")
    else if answer == 6 then (codes "HLC_NOT_NEXT", codes "the number is not the next one of the node")
    else if answer == 7 then (
      codes "HLC_STAMP_NOT_RISING",
      codes "the stamp is not above that of the last accepted item of the node",
    )
    else if answer == 8 then (codes "HLC_ABOVE_FLOOR", codes "the stamp is above the floor")
    else if answer == 9 then (codes "HLC_BELOW_HORIZON", codes "the stamp is below the horizon")
    else if answer == 10 then (codes "HLC_NO_SNAPSHOT", codes "no open snapshot has this id")
    else if answer == 11 then (codes "HLC_TOO_MANY_SNAPSHOTS", codes "1,024 snapshots are open")
    else if answer == 12 then (codes "HLC_BAD_KEY", codes "the key is empty or longer than 255 bytes")
    else if answer == 13 then (codes "HLC_VALUE_TOO_LONG", codes "the value is longer than 65,535 bytes")
    else if answer == 14 then (codes "HLC_NUMBERS_SPENT", codes "no number is left")
    else if answer == 15 then (codes "HLC_NO_MEMORY", codes "out of memory")
    else if answer == 16 then (codes "HLC_BAD_LINE", codes "a line of the certificate is bad")
    else if answer == 22 then (
      codes "HLC_NOT_SHOWN",
      codes "the certificate does not show that the rows are the fewest",
    )
    else if answer == 26 then (codes "HLC_TOO_MANY_NODES", codes "1,024 node numbers are assigned")
    else if answer == 27 then (codes "HLC_RETIRED", codes "the node retired")
    else if answer == 28 then (codes "HLC_NO_WRITES", codes "the batch has no writes")
    else if answer == 29 then (codes "HLC_TOO_MANY_WRITES", codes "the batch has more than 256 writes")
    else if answer == 30 then (codes "HLC_KEY_TWICE", codes "the batch writes a key twice")
    else if answer == 100 then (codes "HLC_CLOSED", codes "the store is closed")
    else if answer == 101 then (codes "HLC_IS_OPEN", codes "the store is open already")
    else if answer == 102 then (codes "HLC_NO_VALUE", codes "the key has no value in the snapshot")
    else if answer == 103 then (codes "HLC_OUTSIDE", codes "the bytes of an entry or a key are not there")
    else if answer == 104 then (codes "HLC_MORE", codes "the next part does not fit")
    else if answer == 105 then (codes "HLC_NO_SUCH_NODE", codes "no node has issued so many items up to this stamp")
    else if answer == 106 then (codes "HLC_BAD_BYTES", codes "the bytes are not an encoding")
    else if answer == 107 then (codes "HLC_NO_CHECKPOINT", codes "the content of the bytes is no checkpoint")
    else if answer == 108 then (codes "HLC_HAS_BYTES", codes "the output has bytes already")
    else if answer == 109 then (codes "HLC_NOT_FEWEST", codes "a row at or below the stamp would be dropped")
    else if answer == 110 then (codes "HLC_NO_INCREMENT", codes "the bytes are no increment")
    else if answer == 111 then (codes "HLC_NOT_LATER", codes "the increment is not of a later state of the store")
    else if answer == 112 then (codes "HLC_CHANGED", codes "the store changed since the saving began")
    else if answer == 113 then (codes "HLC_NOT_PARTS", codes "the checkpoints are no two parts of one store")
    else if answer == 114 then (codes "HLC_BAD_NODE_COUNT", codes "the number of nodes is not 1 to 64")
    else if answer == 115 then (codes "HLC_ALL_RETIRED", codes "all nodes have retired")
    else if answer == 116 then (codes "HLC_BELOW_FLOOR", codes "the start is below the floor")
    else if answer == 117 then (codes "HLC_AFTER_LAST", codes "no open snapshot is at this place")
    else if answer == 118 then (codes "HLC_NOT_UNDER_WAY", codes "no restore or saving is under way")
    else if answer == 119 then (codes "HLC_IS_UNDER_WAY", codes "a restore or saving is under way already")
    else ([], [])

abbrev pub answer_name : ℕ → List ℕ
answer_name answer = (answer_words answer).0

abbrev pub answer_text : ℕ → List ℕ
answer_text answer = (answer_words answer).1
