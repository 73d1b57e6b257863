-- Document 01's listing: the input to the program, whole, and what is printed.
use Rattle.std.specs.Prelude.{◌≡◌, List, ◌++◌, ℕ}
use Rattle.rules.specs.Text.{ascii}
use Rattle.answers.specs.Run.{printout_of}

abbrev pub listing : List ℕ
listing =
    ascii "2,one,1,48,1,,\r\n"
    ++ ascii "0,LL,0,,,,\r\n"
    ++ ascii "0,step,,,,,\r\n"
    ++ ascii "1,LL,0,,,,\r\n"
    ++ ascii "1,step,,,,,\r\n"
    ++ ascii "0,SC,0,7,,,\r\n"
    ++ ascii "0,step,,,,,\r\n"
    ++ ascii "1,VL,0,,,,\r\n"
    ++ ascii "1,step,,,,,\r\n"
    ++ ascii "1,SC,0,9,,,\r\n"
    ++ ascii "1,step,,,,,\r\n"
    ++ ascii "1,SC,0,9,,,\r\n"

abbrev pub printed : List ℕ
printed =
    ascii "no,process,act,answer,open,v0,v1,v2,v3\r\n"
    ++ ascii "1,0,LL,begun,0,,,,\r\n"
    ++ ascii "2,0,step,value,1,0,,,\r\n"
    ++ ascii "3,1,LL,begun,0,,,,\r\n"
    ++ ascii "4,1,step,value,1,0,,,\r\n"
    ++ ascii "5,0,SC,begun,1,,,,\r\n"
    ++ ascii "6,0,step,yes,0,,,,\r\n"
    ++ ascii "7,1,VL,begun,1,,,,\r\n"
    ++ ascii "8,1,step,no,1,,,,\r\n"
    ++ ascii "9,1,SC,begun,1,,,,\r\n"
    ++ ascii "10,1,step,no,0,,,,\r\n"
    ++ ascii "11,1,SC,refused,0,7,,,\r\n"

-- the printout of the listing is what document 01 prints, byte for byte
abbrev pub Listing : Type 0
Listing = printout_of listing ≡ printed
